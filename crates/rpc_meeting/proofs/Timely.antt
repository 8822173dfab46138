-- An act that the server takes is timely: of its kind, at its time, and read as what it says.
use Rattle.std.proofs.Common.{◌≡◌, refl, sym, ap, ◌∙◌, subst, Bool, true, false, not, ◌&&◌, List, [], ◌∷◌, map}
use Rattle.std.specs.Prelude.{None}
use Rattle.bp_value.specs.Form.{form_of}
use Rattle.bp_grammar.specs.Written.{written}
use Rattle.rpc_msg.specs.Forms.{part_form}
use Rattle.rpc_msg.specs.Values.{eof_value}
use Rattle.rpc_msg.specs.declared.message.Answer.{Answer}
use Rattle.rpc_schema.specs.declared.desc.Kind.{Kind}
use Rattle.rpc_schema.specs.declared.desc.Kind.TheVariants.{Plain, OneWay, Pipe, State}
use Rattle.rpc_talk.specs.Acts.{Act, Reply, Fail, Begin, Decline, Give, End, Stop, answer_by, is_short, response, says, suits}
use Rattle.rpc_talk.specs.Parts.{goes_on, is_stream, kind_parts, plain_parts, stream_parts}
use Rattle.rpc_talk.specs.Said.{Said, Begun, Declined, Item, Eof, Unreadable, Failed, later_by, said_behind}
use Rattle.rpc_talk.specs.Said as said
use Rattle.rpc_meeting.specs.Steps.{may_be_long, wrong_time}
use Rattle.rpc_meeting.specs.Talks.{Common, Served, act_said, acts_parts, is_begun, is_nil, goes_on_still}
use Rattle.rpc_meeting.proofs.Calls.{IsKnown}
use Rattle.rpc_meeting.proofs.Lines.{IsTimely, most}
use Rattle.rpc_meeting.proofs.Owners.{IsGiven, IsOk}

-- a stream that goes on and was answered has begun
stream_answered : (s : Said) (later : List Said) → goes_on (stream_parts (s ∷ later)).mark ≡ true → not (is_nil (stream_parts (s ∷ later)).parts) ≡ true
stream_answered (said.Reply v) later going = absurd cc
stream_answered (Begun v) later going = refl
stream_answered (Declined v) later going = absurd cc
stream_answered (Item v) later going = absurd cc
stream_answered Eof later going = absurd cc
stream_answered (Unreadable why) later going = absurd cc
stream_answered (Failed e) later going = absurd cc

-- another procedure that was answered is over
plain_answered : (s : Said) (later : List Said) → goes_on (plain_parts (s ∷ later)).mark ≡ true → ⊥
plain_answered (said.Reply v) later going = cc
plain_answered (Begun v) later going = cc
plain_answered (Declined v) later going = cc
plain_answered (Item v) later going = cc
plain_answered Eof later going = cc
plain_answered (Unreadable why) later going = cc
plain_answered (Failed e) later going = cc

answered_first : (kind : Kind) (s : Said) (later : List Said) → goes_on (kind_parts kind (s ∷ later)).mark ≡ true
    → (is_stream kind ≡ true) × (not (is_nil (kind_parts kind (s ∷ later)).parts) ≡ true)
answered_first Plain s later going = absurd (plain_answered s later going)
answered_first OneWay s later going = absurd cc
answered_first Pipe s later going = (refl, stream_answered s later going)
answered_first State s later going = (refl, stream_answered s later going)

none_begun : (kind : Kind) → not (is_nil (kind_parts kind []).parts) ≡ false
none_begun Plain = refl
none_begun OneWay = refl
none_begun Pipe = refl
none_begun State = refl

-- what is not too long is short, but for an end, which is read anyhow
short_or : (a b : Bool) → (a && not b) ≡ false → a ≡ true → b ≡ true
short_or true true e is = refl
short_or true false e is = absurd cc
short_or false b e is = absurd cc

module _ (r : Common) (ok : IsOk r) (q : Served) (act : Act) (known : IsKnown r q.desc) (given : IsGiven (most r) q.desc act) (going : goes_on_still q ≡ true)
    (fits : suits act q.desc.kind ≡ true) (time : wrong_time act (is_begun q) ≡ None)
    (short : may_be_long act ≡ true → is_short (most r) (response q.id (answer_by q.desc act)) ≡ true) where
  -- an end of a stream that has begun
  end_read : (a : Act) → answer_by q.desc a ≡ answer_by q.desc Stop → act_said a ≡ Eof → is_stream q.desc.kind ≡ true → (b : Answer) (before : List Answer)
      → said_behind (most r) q.desc (b ∷ before) (answer_by q.desc a) ≡ act_said a
  end_read a same_answer is stream b before = ap (said_behind (most r) q.desc (b ∷ before)) same_answer ∙ (by q.desc.kind refl ∙ sym is)
    where
      by : (kind : Kind) → q.desc.kind ≡ kind → said_behind (most r) q.desc (b ∷ before) (answer_by q.desc Stop) ≡ Eof
      by Plain e = absurd (let line : true ≡ false = sym stream ∙ ap is_stream e in cc)
      by OneWay e = absurd (let line : true ≡ false = sym stream ∙ ap is_stream e in cc)
      by Pipe e = ap (λ k. later_by k (most r) q.desc (written part_form eof_value)) e ∙ ok.eof (form_of q.desc.item)
      by State e = ap (λ k. later_by k (most r) q.desc (written part_form eof_value)) e ∙ ok.eof (form_of q.desc.item)

  long_read : (a : Act) → a ≡ act → may_be_long a ≡ true → is_stream q.desc.kind ≡ true → wrong_time a true ≡ None → (b : Answer) (before : List Answer)
      → said_behind (most r) q.desc (b ∷ before) (answer_by q.desc a) ≡ act_said a
  long_read a e long stream late b before =
      ok.later q.desc q.id a b before known (subst (IsGiven (most r) q.desc) (sym e) given) stream (ap (λ x. suits x q.desc.kind) e ∙ fits) late
      (ap (λ x. is_short (most r) (response q.id (answer_by q.desc x))) e ∙ short (ap may_be_long (sym e) ∙ long))

  -- behind others, of a stream
  later_read : (a : Act) → a ≡ act → is_stream q.desc.kind ≡ true → wrong_time a true ≡ None → (b : Answer) (before : List Answer)
      → said_behind (most r) q.desc (b ∷ before) (answer_by q.desc a) ≡ act_said a
  later_read End e stream late b before = end_read End refl refl stream b before
  later_read Stop e stream late b before = end_read Stop refl refl stream b before
  later_read (Reply v) e stream late b before = long_read (Reply v) e refl stream late b before
  later_read (Fail t) e stream late b before = long_read (Fail t) e refl stream late b before
  later_read (Begin v) e stream late b before = long_read (Begin v) e refl stream late b before
  later_read (Decline v) e stream late b before = long_read (Decline v) e refl stream late b before
  later_read (Give v) e stream late b before = long_read (Give v) e refl stream late b before

  -- as a first answer
  first_long : (a : Act) → a ≡ act → wrong_time a false ≡ None → may_be_long a ≡ true
  first_long (Reply v) e early = refl
  first_long (Fail t) e early = refl
  first_long (Begin v) e early = refl
  first_long (Decline v) e early = refl
  first_long (Give v) e early = refl
  first_long End e early = absurd cc
  first_long Stop e early = absurd cc

  read_at : (done : List Act) → q.acts ≡ done → said_behind (most r) q.desc (says q.desc done) (answer_by q.desc act) ≡ act_said act
  read_at [] is =
      let early : wrong_time act false ≡ None
      = ap (wrong_time act) (sym (ap (λ xs. not (is_nil (acts_parts q.desc xs).parts)) is ∙ none_begun q.desc.kind)) ∙ time in
      ok.first q.desc q.id act known given fits early (short (first_long act refl early))
  read_at (a ∷ done) is =
      let (stream, begun) = answered_first q.desc.kind (act_said a) (map act_said done) (ap (λ xs. goes_on (acts_parts q.desc xs).mark) (sym is) ∙ going) in
      let late : wrong_time act true ≡ None = ap (wrong_time act) (sym (ap (λ xs. not (is_nil (acts_parts q.desc xs).parts)) is ∙ begun)) ∙ time in
      later_read act refl stream late (answer_by q.desc a) (says q.desc done)

  pub timely : IsTimely (most r) q act
  timely = record { suit = fits; time = time; read = read_at q.acts refl }
