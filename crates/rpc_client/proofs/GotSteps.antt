-- What a client that got some bytes is behind one more step.
use Rattle.std.proofs.Common.{◌≡◌, ◌≢◌, refl, sym, ap, ◌∙◌, subst, inl, inr, ◌⊎◌, ℕ, zero, suc, ◌+◌, ◌*◌, ◌<◌, ◌≤◌, ◌^◌, ℤ, pos, Bool, true, false, not, if◌then◌else◌, List, [], ◌∷◌, ◌++◌, length, take, drop, arith}
use Rattle.std.specs.Prelude.{Option, Some, None, Result, Ok, Err}
use Rattle.std.specs.Option.{is_some, option_or}
use Rattle.readers.specs.Reader.{Each, IsByte}
use Rattle.rpc_msg.specs.declared.message.Answer.{Answer}
use Rattle.rpc_msg.specs.declared.message.Message.{Message}
use Rattle.rpc_msg.specs.declared.shared.CloseCause.{CloseCause}
use Rattle.rpc_msg.specs.declared.shared.Ending.{Ending}
use Rattle.rpc_msg.specs.declared.shared.Ending.TheVariants as ending
use Rattle.rpc_msg.specs.declared.shared.Part.{Part}
use Rattle.rpc_schema.specs.declared.desc.Kind.{Kind}
use Rattle.rpc_schema.specs.declared.desc.Kind.TheVariants.{Plain, OneWay, Pipe, State}
use Rattle.rpc_schema.specs.declared.desc.RpcDesc.{RpcDesc}
use Rattle.rpc_talk.specs.Parts.{Fate, Goes_on, Ends, Broken, CallParts, cut_parts, cut_ending, is_tracked, parts_of, unless_closed}
use Rattle.rpc_client.specs.declared.entry.Took.{Took}
use Rattle.rpc_client.specs.Kept.{ending_kept, Holds, IsKept}
use Rattle.rpc_client.specs.Rows.{Row, after_take, answer_taken, ending_left, handed_out, is_sent, new_row, row_taken, took_of}
use Rattle.rpc_client.proofs.RowSteps.{drop_more}

-- ---- a client that is closed

some_closed : (cut : Option ℕ) (mark : Fate) → is_some (cut_ending cut mark false) ≡ true → is_some (cut_ending cut mark true) ≡ true
some_closed None (Ends e) is = refl
some_closed None Goes_on is = absurd cc
some_closed None Broken is = absurd cc
some_closed (Some c) mark is = refl

pub closed_row : (m : ℕ) (answers : List Answer) (row : Row) → IsKept m false answers row → IsKept m true answers row
closed_row m answers row kept = record {
  holds = record {
    waiting = kept.holds.waiting;
    taken = kept.holds.taken;
    ending = kept.holds.ending;
    handed = λ h. some_closed row.cut (parts_of m row.desc answers).mark (kept.holds.handed h);
    over = kept.holds.over;
    cut = kept.holds.cut;
  };
  phase = kept.phase;
}

-- ---- a take

-- the ending of a call, by what is left of it
ending_by : (cut : Option ℕ) (mark : Fate) (closed : Bool) → ending_left (cut_ending cut mark false) closed ≡ cut_ending cut mark closed
ending_by None (Ends e) closed = refl
ending_by None Goes_on closed = refl
ending_by None Broken closed = refl
ending_by (Some c) mark closed = refl

-- what the parts and the ending of a call have to take, of which so many parts were taken
pub take_told : (p : CallParts) (closed : Bool) (row : Row) → Holds p closed row
    → answer_taken closed row ≡ took_of (drop row.taken (cut_parts row.cut p.parts)) (cut_ending row.cut p.mark closed) row.handed
take_told p closed row holds = ap (λ w. took_of w (ending_left row.ending closed) row.handed) holds.waiting ∙ by row.handed refl
  where
    left : List Part
    left = drop row.taken (cut_parts row.cut p.parts)

    none : (ps : List Part) (e f : Option Ending) → ps ≡ [] → took_of ps e true ≡ took_of ps f true
    none [] e f is = refl
    none (q ∷ ps) e f is = refl

    by : (h : Bool) → row.handed ≡ h → took_of left (ending_left row.ending closed) row.handed ≡ took_of left (cut_ending row.cut p.mark closed) row.handed
    by true is = ap (took_of left (ending_left row.ending closed)) is ∙ (none left _ _ (sym holds.waiting ∙ holds.over is) ∙ ap (took_of left (cut_ending row.cut p.mark closed)) (sym is))
    by false is =
        let kept : row.ending ≡ cut_ending row.cut p.mark false = holds.ending ∙ ap (λ b. ending_kept b (cut_ending row.cut p.mark false)) is in
        ap (λ e. took_of left (ending_left e closed) row.handed) kept ∙ ap (λ e. took_of left e row.handed) (ending_by row.cut p.mark closed)

drop_one : {X : Type 0} (n : ℕ) (xs : List X) (x : X) (later : List X) → x ∷ later ≡ drop n xs → (later ≡ drop (n + 1) xs) × (n + 1 ≤ length xs)
drop_one n [] x later is = absurd (empty n is)
  where
    empty : {X : Type 0} {x : X} {later : List X} (n : ℕ) → x ∷ later ≡ drop n [] → ⊥
    empty zero is = cc
    empty (suc n) is = cc
drop_one zero (y ∷ xs) x later is = (let same : later ≡ xs = cc in same, omega arith)
drop_one (suc n) (y ∷ xs) x later is =
    let (same, le) = drop_one n xs x later is in
    let count : suc n + 1 ≡ suc (n + 1) = omega arith in
    (same ∙ ap (λ k. drop k (y ∷ xs)) (sym count), omega (arith, le))

only_sent : (e : Ending) → is_sent e ≡ true → e ≡ ending.Sent
only_sent (ending.Reply v) is = absurd cc
only_sent (ending.Failed x) is = absurd cc
only_sent (ending.BadReply why) is = absurd cc
only_sent (ending.Declined v) is = absurd cc
only_sent ending.Eof is = absurd cc
only_sent ending.Aborted is = absurd cc
only_sent ending.Sent is = refl
only_sent ending.Closed is = absurd cc

sent_is : (o : Option Ending) (closed : Bool) (e : Ending) → ending_left o closed ≡ Some e → is_sent e ≡ true → o ≡ Some ending.Sent
sent_is (Some x) closed e is with_call = let same : x ≡ e = cc in ap Some (same ∙ only_sent e with_call)
sent_is None true e is with_call = absurd (let same : ending.Closed ≡ e = cc in let line : false ≡ true = ap is_sent same ∙ with_call in cc)
sent_is None false e is with_call = absurd cc

pub take_kept : (m : ℕ) (closed : Bool) (answers : List Answer) (row : Row) → IsKept m closed answers row → IsKept m closed answers (after_take closed row)
take_kept m closed answers row kept = by row.waiting refl (ending_left row.ending closed) refl row.handed refl
  where
    out : (e : Ending) → row.waiting ≡ [] → ending_left row.ending closed ≡ Some e → row.handed ≡ false → (b : Bool) → is_sent e ≡ b
        → IsKept m closed answers (if b then record row { ending = Some ending.Sent } else record row { ending = None; handed = true })
    out e is left his true with_call = record {
      holds = record {
        waiting = kept.holds.waiting;
        taken = kept.holds.taken;
        ending = sym (sent_is row.ending closed e left with_call) ∙ kept.holds.ending;
        handed = kept.holds.handed;
        over = kept.holds.over;
        cut = kept.holds.cut;
      };
      phase = kept.phase;
    }
    out e is left his false with_call = record {
      holds = record {
        waiting = kept.holds.waiting;
        taken = kept.holds.taken;
        ending = refl;
        handed = λ h.
            (let mark = (parts_of m row.desc answers).mark in
            let stands : row.ending ≡ cut_ending row.cut mark false = kept.holds.ending ∙ ap (λ b. ending_kept b (cut_ending row.cut mark false)) his in
            ap is_some (sym (ending_by row.cut mark closed) ∙ (ap (λ o. ending_left o closed) (sym stands) ∙ left)));
        over = λ h. is;
        cut = kept.holds.cut;
      };
      phase = kept.phase;
    }

    by : (ps : List Part) → row.waiting ≡ ps → (e : Option Ending) → ending_left row.ending closed ≡ e → (h : Bool) → row.handed ≡ h → IsKept m closed answers (row_taken row ps e h)
    by (p ∷ ps) is e left h his = record {
      holds = record {
        waiting = (drop_one row.taken (cut_parts row.cut (parts_of m row.desc answers).parts) p ps (sym is ∙ kept.holds.waiting)).0;
        taken = (drop_one row.taken (cut_parts row.cut (parts_of m row.desc answers).parts) p ps (sym is ∙ kept.holds.waiting)).1;
        ending = kept.holds.ending;
        handed = kept.holds.handed;
        over = λ x. absurd (let none : p ∷ ps ≡ [] = sym is ∙ kept.holds.over x in cc);
        cut = kept.holds.cut;
      };
      phase = kept.phase;
    }
    by [] is e left true his = kept
    by [] is None left false his = kept
    by [] is (Some e) left false his = out e is left his (is_sent e) refl

-- ---- a new call

new_by : (kind : Kind) (m : ℕ) (id : ℤ) (d : RpcDesc) → IsKept m false [] (new_row id (record d { kind = kind }))
new_by Plain m id d = record {
  holds = record { waiting = refl; taken = omega arith; ending = refl; handed = λ h. absurd cc; over = λ h. refl; cut = tt };
  phase = (refl, refl);
}
new_by OneWay m id d = record {
  holds = record { waiting = refl; taken = omega arith; ending = refl; handed = λ h. absurd cc; over = λ h. refl; cut = tt };
  phase = tt;
}
new_by Pipe m id d = record {
  holds = record { waiting = refl; taken = omega arith; ending = refl; handed = λ h. absurd cc; over = λ h. refl; cut = tt };
  phase = (refl, refl);
}
new_by State m id d = record {
  holds = record { waiting = refl; taken = omega arith; ending = refl; handed = λ h. absurd cc; over = λ h. refl; cut = tt };
  phase = (refl, refl);
}

pub new_kept : (m : ℕ) (id : ℤ) (d : RpcDesc) → IsKept m false [] (new_row id d)
new_kept m id d = new_by d.kind m id d

-- ---- what is shown

pub shown_ending : (cut : Option ℕ) (mark : Fate) (closed : Bool) → option_or (cut_ending cut mark false) (unless_closed closed) ≡ cut_ending cut mark closed
shown_ending None (Ends e) closed = refl
shown_ending None Goes_on closed = refl
shown_ending None Broken closed = refl
shown_ending (Some c) mark closed = refl

-- the ending of a call whose ending was not taken
pub kept_ending : (p : CallParts) (closed : Bool) (row : Row) → Holds p closed row → row.handed ≡ false → row.ending ≡ cut_ending row.cut p.mark false
kept_ending p closed row holds left = holds.ending ∙ ap (λ b. ending_kept b (cut_ending row.cut p.mark false)) left
