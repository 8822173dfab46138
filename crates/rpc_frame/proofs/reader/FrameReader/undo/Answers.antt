use Rattle.std.proofs.Common.{◌≡◌, refl, sym, ap, ◌∙◌, subst, ◌+◌, ◌-◌, ◌%◌, ◌^◌, ◌<◌, ◌≤◌, length, take, arith}
use Rattle.bp_num.proofs.Bytes.{pow-some}
use Rattle.rpc_frame.specs.States.{FrameState, IsPartOfFrame}
use Rattle.rpc_frame.proofs.HeadSteps.{scale_few}
use Rattle.rpc_frame.proofs.HeldSteps.{undone_late, undone_early, head_part}
use Rattle.rpc_frame.proofs.reader.FrameReader.undo.Goals as goal

pub returns-then-used-length : goal.returns-then-used-length
returns-then-used-length c =
    undone_late c.args.self.now c.self.inside.max c.args.body c.truncate.new.self.items c.args.used c.len-length.result c.args.place c.self.inside.failed (ap (λ (s : FrameState). s.max) (sym c.self.view_is)) (ap (λ (s : FrameState). s.failed) c.self.view_is ∙ c.requires.going) (c.len-length.ensures ∙ (c.into_vec-bytes.result.ok.0 ∙ ap length c.into_vec-bytes.ensures))
    c.if-used-length.true (c.truncate.ensures.items ∙ ap (λ b. take (c.len-length.result - c.args.used) b) c.into_vec-bytes.ensures)

pub pow-requires : goal.pow-requires
pow-requires c =
    let lt : 8 - (c.args.used - c.len-length.result) < 8 = omega arith in
    omega (arith, scale_few (8 - (c.args.used - c.len-length.result)) lt)

pub nonzero_rem-self : goal.nonzero_rem-self
nonzero_rem-self c = subst (λ n. 0 < n) (sym c.pow.ensures) (pow-some (8 - (c.args.used - c.len-length.result)))

pub invariant_of-self-2 : goal.invariant_of-self-2
invariant_of-self-2 c =
    let fits : c.len-length.result ≤ c.self.inside.max =
    subst (λ (s : FrameState). c.len-length.result ≤ s.max) (sym c.self.view_is) (omega (arith, (c.len-length.ensures ∙ (c.into_vec-bytes.result.ok.0 ∙ ap length c.into_vec-bytes.ensures)), c.requires.short)) in
    subst (λ b. IsPartOfFrame c.self.inside.max (record { seen = 8 - (c.args.used - c.len-length.result); low = c.len-length.result % c.pow.result }) b) (sym c.clear.ensures.items)
    (head_part c.self.inside.max c.len-length.result _ _ c.pow.result c.self.invariant.known.limit fits (omega arith) c.pow.ensures refl)

pub returns : goal.returns
returns c =
    let few : c.len-length.result < 256 ^ 8 = omega arith in
    undone_early c.args.self.now c.self.inside.max c.args.body c.clear.new.self.items c.args.used c.len-length.result c.args.place c.self.inside.failed (ap (λ (s : FrameState). s.max) (sym c.self.view_is)) (ap (λ (s : FrameState). s.failed) c.self.view_is ∙ c.requires.going) (c.len-length.ensures ∙ (c.into_vec-bytes.result.ok.0 ∙ ap length c.into_vec-bytes.ensures))
    c.if-used-length.false (omega (arith, (c.len-length.ensures ∙ (c.into_vec-bytes.result.ok.0 ∙ ap length c.into_vec-bytes.ensures)), c.requires.within)) few _ _ refl (ap (λ k. c.len-length.result % k) c.pow.ensures) c.clear.ensures.items
