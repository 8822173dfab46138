-- What the acts of a procedure that a client knows say is read back, and its queries are told apart from its aborts.
use Rattle.std.proofs.Common.{◌≡◌, refl, sym, ap, ◌∙◌, subst, ℕ, ◌<◌, ◌≤◌, ◌^◌, ℤ, pos, Bool, true, false, ◌&&◌, if◌then◌else◌, List, [], ◌∷◌, length, inl, inr, arith}
use Rattle.std.specs.Prelude.{Some, None}
use Rattle.std.specs.List.{All}
use Rattle.std.specs.Str.{bytes_eq}
use Rattle.std.proofs.lemmas.List.Elements.{All-head, All-tail}
use Rattle.std.proofs.lemmas.Slice.Eq.{bytes_eq-Decides}
use Rattle.bp_value.specs.declared.shape.Shape.TheVariants as shp
use Rattle.bp_value.specs.declared.value.Value.{Value}
use Rattle.bp_value.specs.Form.{Form, form_of}
use Rattle.bp_value.specs.Fits.{Fits}
use Rattle.bp_value.proofs.Forms.{form_of-Unit}
use Rattle.bp_grammar.specs.Written.{written}
use Rattle.bp_grammar.proofs.Good.{good_read}
use Rattle.bp_grammar.proofs.Right.{IsRead}
use Rattle.rpc_msg.specs.declared.message.Answer.{Answer}
use Rattle.rpc_msg.specs.declared.data.First.TheVariants as first
use Rattle.rpc_msg.specs.Forms.{part_form}
use Rattle.rpc_msg.specs.Values.{item_value, eof_value}
use Rattle.rpc_schema.specs.declared.desc.Entry.{Entry}
use Rattle.rpc_schema.specs.declared.desc.Kind.{Kind}
use Rattle.rpc_schema.specs.declared.desc.Kind.TheVariants.{Plain, OneWay, Pipe, State}
use Rattle.rpc_schema.specs.declared.desc.RpcDesc.{RpcDesc}
use Rattle.rpc_schema.specs.Choice.{menu_description}
use Rattle.rpc_schema.specs.Entries.{AreEntries, IsDesc, IsEntry, menu_name}
use Rattle.rpc_talk.specs.Acts.{Act, answer_by, first_bytes, is_short, response, suits}
use Rattle.rpc_talk.specs.Acts as acts
use Rattle.rpc_talk.specs.Parts.{takes_reply, is_stream}
use Rattle.rpc_talk.specs.Said.{Begun, Declined, Item, Eof, first_by, later_by, said_behind}
use Rattle.rpc_talk.specs.Said as said
use Rattle.rpc_talk.proofs.AskBack.{query_no_abort}
use Rattle.rpc_talk.proofs.ReadBack.{begun_reads, declined_reads, eof_reads, item_reads, plain_reads}
use Rattle.rpc_talk.proofs.ShortBodies.{item_text_long, short_answer}
use Rattle.rpc_meeting.specs.Steps.{wrong_time}
use Rattle.rpc_meeting.specs.Talks.{Common, abort_body, act_said, line_named, is_abort_query, is_entry, is_stream_at, query_body, query_body_by}
use Rattle.rpc_meeting.proofs.Calls.{IsKnown}
use Rattle.rpc_meeting.proofs.MenuReads.{HasVersion, menu_clear, menu_read, no_entry}
use Rattle.rpc_meeting.proofs.Owners.{IsGiven, IsOk}

-- ---- the forms of a procedure can be read

pub record AreRead (d : RpcDesc) : Type 0 where
  pub query : IsRead (form_of d.query)
  pub first : IsRead (form_of d.first)
  pub item : IsRead (form_of d.item)
  pub error : IsRead (form_of d.error)

unit_read : IsRead (form_of shp.Unit)
unfolding IsRead
unit_read = subst IsRead (sym form_of-Unit) tt

menu_forms : AreRead menu_description
menu_forms = record { query = unit_read; first = menu_read; item = unit_read; error = unit_read }

desc_forms : (d : RpcDesc) → IsDesc d → AreRead d
desc_forms d is = record {
  query = good_read (form_of d.query) is.query;
  first = good_read (form_of d.first) is.first;
  item = good_read (form_of d.item) is.item;
  error = good_read (form_of d.error) is.error;
}

-- the line that is found is one of a schema
pub line_entry : (es : List Entry) (tag : List ℕ) (version : ℤ) (e : Entry) → All IsEntry es → line_named es tag version ≡ Some e → IsEntry e
line_entry [] tag version e all found = absurd cc
line_entry (x ∷ es) tag version e all found = by (is_entry tag version x) found (line_entry es tag version e (All-tail IsEntry x es all))
  where
    by : (b : Bool) → (if b then Some x else line_named es tag version) ≡ Some e → (line_named es tag version ≡ Some e → IsEntry e)
        → IsEntry e
    by true here later = let same : x ≡ e = cc in subst IsEntry same (All-head IsEntry x es all)
    by false there later = later there

-- those of a procedure that a client knows
pub known_forms : (r : Common) (d : RpcDesc) → AreEntries r.entries → IsKnown r d → AreRead d
known_forms r d entries (inl is) = subst AreRead (sym is) menu_forms
known_forms r d entries (inr (e, found, same)) =
    subst AreRead same (desc_forms e.desc (line_entry r.entries d.name d.version e entries.each found).desc)

-- ---- acts

plain_stream : (kind : Kind) → takes_reply kind ≡ true → is_stream kind ≡ true → ⊥
plain_stream Plain plain stream = cc
plain_stream OneWay plain stream = cc
plain_stream Pipe plain stream = cc
plain_stream State plain stream = cc

module _ (m : ℕ) (d : RpcDesc) (id : ℤ) (small : m < 2 ^ 64) (forms : AreRead d) where
  reply_first : (kind : Kind) (v : Value) → Fits m (form_of d.first) v → takes_reply kind ≡ true
      → first_by kind m d (written (form_of d.first) v) ≡ said.Reply v
  reply_first Plain v fits suit = plain_reads m (form_of d.first) v small forms.first fits
  reply_first OneWay v fits suit = absurd cc
  reply_first Pipe v fits suit = absurd cc
  reply_first State v fits suit = absurd cc

  begin_first : (kind : Kind) (v : Value) → Fits m (form_of d.first) v → is_stream kind ≡ true
      → first_by kind m d (first_bytes d (first.Begun v)) ≡ Begun v
  begin_first Plain v fits suit = absurd cc
  begin_first OneWay v fits suit = absurd cc
  begin_first Pipe v fits suit = begun_reads m (form_of d.first) (form_of d.error) v small forms.first forms.error fits
  begin_first State v fits suit = begun_reads m (form_of d.first) (form_of d.error) v small forms.first forms.error fits

  decline_first : (kind : Kind) (v : Value) → Fits m (form_of d.error) v → is_stream kind ≡ true
      → first_by kind m d (first_bytes d (first.Declined v)) ≡ Declined v
  decline_first Plain v fits suit = absurd cc
  decline_first OneWay v fits suit = absurd cc
  decline_first Pipe v fits suit = declined_reads m (form_of d.first) (form_of d.error) v small forms.first forms.error fits
  decline_first State v fits suit = declined_reads m (form_of d.first) (form_of d.error) v small forms.first forms.error fits

  item_short : (v : Value) → is_short m (response id (answer_by d (acts.Give v))) ≡ true → length (written (form_of d.item) v) ≤ m
  item_short v short =
      let inner = item_text_long (written (form_of d.item) v) in
      let outer = short_answer m id (written part_form (item_value (written (form_of d.item) v))) short in
      omega (arith, inner, outer)

  give_later : (kind : Kind) (v : Value) → Fits m (form_of d.item) v → is_stream kind ≡ true
      → is_short m (response id (answer_by d (acts.Give v))) ≡ true
      → later_by kind m d (written part_form (item_value (written (form_of d.item) v))) ≡ Item v
  give_later Plain v fits suit short = absurd cc
  give_later OneWay v fits suit short = absurd cc
  give_later Pipe v fits suit short = item_reads m (form_of d.item) v small forms.item fits (item_short v short)
  give_later State v fits suit short = item_reads m (form_of d.item) v small forms.item fits (item_short v short)

  end_later : (kind : Kind) → is_stream kind ≡ true → later_by kind m d (written part_form eof_value) ≡ Eof
  end_later Plain suit = absurd cc
  end_later OneWay suit = absurd cc
  end_later Pipe suit = eof_reads m (form_of d.item)
  end_later State suit = eof_reads m (form_of d.item)

  first_act : (act : Act) → IsGiven m d act → suits act d.kind ≡ true → wrong_time act false ≡ None
      → said_behind m d [] (answer_by d act) ≡ act_said act
  first_act (acts.Reply v) fits suit now = reply_first d.kind v fits suit
  first_act (acts.Fail text) fits suit now = refl
  first_act (acts.Begin v) fits suit now = begin_first d.kind v fits suit
  first_act (acts.Decline v) fits suit now = decline_first d.kind v fits suit
  first_act (acts.Give v) fits suit now = absurd cc
  first_act acts.End fits suit now = absurd cc
  first_act acts.Stop fits suit now = absurd cc

  later_act : (act : Act) (b : Answer) (before : List Answer) → IsGiven m d act → is_stream d.kind ≡ true → suits act d.kind ≡ true
      → wrong_time act true ≡ None
      → is_short m (response id (answer_by d act)) ≡ true → said_behind m d (b ∷ before) (answer_by d act) ≡ act_said act
  later_act (acts.Reply v) b before fits stream suit now short = absurd (plain_stream d.kind suit stream)
  later_act (acts.Fail text) b before fits stream suit now short = refl
  later_act (acts.Begin v) b before fits stream suit now short = absurd cc
  later_act (acts.Decline v) b before fits stream suit now short = absurd cc
  later_act (acts.Give v) b before fits stream suit now short = give_later d.kind v fits suit short
  later_act acts.End b before fits stream suit now short = end_later d.kind suit
  later_act acts.Stop b before fits stream suit now short = end_later d.kind suit

-- ---- queries and aborts

module _ (r : Common) (d : RpcDesc) (entries : AreEntries r.entries) where
  -- a query of the menu is never an abort
  menu_known : d ≡ menu_description → line_named r.entries d.name d.version ≡ None
  menu_known is =
      subst (λ (x : RpcDesc). line_named r.entries x.name x.version ≡ None) (sym is)
      (no_entry r.entries menu_name (pos 1) entries.each refl)

  stream_known : (e : Entry) → line_named r.entries d.name d.version ≡ Some e → e.desc ≡ d
      → is_stream_at (line_named r.entries d.name d.version) ≡ is_stream d.kind
  stream_known e found same = ap is_stream_at found ∙ ap (λ (x : RpcDesc). is_stream x.kind) same

  no_abort : (kind : Kind) (f : Form) (v : Value) → is_stream kind && bytes_eq (query_body_by kind f v) abort_body ≡ false
  no_abort Plain f v = refl
  no_abort OneWay f v = refl
  no_abort Pipe f v = query_no_abort (written f v)
  no_abort State f v = query_no_abort (written f v)

  call_known : (id : ℤ) (v : Value) → IsKnown r d
      → is_abort_query r.entries (record { tag = d.name; version = d.version; id = id; body = query_body d v }) ≡ false
  call_known id v (inl is) = ap (λ o. is_stream_at o && bytes_eq (query_body d v) abort_body) (menu_known is)
  call_known id v (inr (e, found, same)) =
      ap (λ b. b && bytes_eq (query_body d v) abort_body) (stream_known e found same) ∙ no_abort d.kind (form_of d.query) v

  abort_known : (id : ℤ) → IsKnown r d → is_stream d.kind ≡ true
      → is_abort_query r.entries (record { tag = d.name; version = d.version; id = id; body = abort_body }) ≡ true
  abort_known id (inl is) stream = absurd (let plain : false ≡ true = ap (λ (x : RpcDesc). is_stream x.kind) (sym is) ∙ stream in cc)
  abort_known id (inr (e, found, same)) stream =
      ap (λ b. b && bytes_eq abort_body abort_body) (stream_known e found same ∙ stream) ∙ (bytes_eq-Decides abort_body abort_body).1 refl

-- ---- rules

-- what the talk rests on is so for the rules of a schema
pub ok_rules : (r : Common) → AreEntries r.entries → r.limits.max_message ≤ 2 ^ 30 → All HasVersion r.menu → IsOk r
ok_rules r entries limit versions = record {
  menu = λ tag version is. no_entry r.entries tag version entries.each is;
  own = refl;
  clear = menu_clear r small versions;
  eof = eof_reads r.limits.max_message;
  first = λ d id act known given suit now short.
      first_act r.limits.max_message d id small (known_forms r d entries known) act given suit now;
  later = λ d id act b before known given stream suit now short.
      later_act r.limits.max_message d id small (known_forms r d entries known) act b before given stream suit now short;
  calls = λ d id v known. call_known r d entries id v known;
  aborts = λ d id known stream. abort_known r d entries id known stream;
}
  where
    small : r.limits.max_message < 2 ^ 64
    small = omega arith
