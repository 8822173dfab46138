-- The acts that are accepted of one query are legal.
use Rattle.std.proofs.Common.{◌≡◌, refl, sym, ap, ◌∙◌, subst, ℕ, Bool, true, false, cond, List, [], ◌∷◌}
use Rattle.std.specs.Prelude.{Option, Some, None, slice_get}
use Rattle.rpc_schema.specs.declared.desc.Entry.{Entry}
use Rattle.rpc_schema.specs.declared.desc.Kind.{Kind}
use Rattle.rpc_schema.specs.declared.desc.Kind.TheVariants.{Plain, OneWay, Pipe, State}
use Rattle.rpc_talk.specs.Acts.{Act, Reply, Fail, Begin, Decline, Give, End, Stop, suits}
use Rattle.rpc_talk.specs.Legal.{ArePlain, AreLater, AreStream, AreLegal}
use Rattle.rpc_talk.specs.Parts.{takes_reply}
use Rattle.rpc_server.specs.Acting.{begun_refusal, kind_refusal, standing_refusal, AreAccepted}
use Rattle.rpc_server.specs.Rules.{Rules}
use Rattle.rpc_server.specs.declared.error.ActError.{ActError}
use Rattle.rpc_server.specs.declared.error.ActError.TheVariants as refused
use Rattle.rpc_server.specs.declared.table.Standing.TheVariants.{Nowhere, Open, Stopped}

some_none : (why : ActError) → Some why ≡ None → ⊥
some_none why e = cc

true_false : true ≡ false → ⊥
true_false e = cc

none_behind : (r : Rules) (acts : List Act) → AreAccepted r Nowhere acts → acts ≡ []
none_behind r [] all = refl
none_behind r (act ∷ acts) all = absurd (some_none refused.NoSuch all.0)

none_stopped : (r : Rules) (acts : List Act) → AreAccepted r Stopped acts → acts ≡ []
none_stopped r [] all = refl
none_stopped r (act ∷ acts) all = absurd (some_none refused.Stopped all.0)

module _ (r : Rules) (place : ℕ) (e : Entry) (there : slice_get r.entries place ≡ Some e) where
  -- an act that is not refused suits the kind, and comes in its order
  opened : (act : Act) (begun : Bool) → standing_refusal r act (Open place begun) ≡ None → (suits act e.desc.kind ≡ true) × (begun_refusal act begun ≡ None)
  opened act begun none = by (suits act e.desc.kind) refl (sym (ap (kind_refusal act begun) there) ∙ none)
    where
      by : (t : Bool) → suits act e.desc.kind ≡ t → cond t (begun_refusal act begun) (Some refused.WrongKind) ≡ None
          → (suits act e.desc.kind ≡ true) × (begun_refusal act begun ≡ None)
      by true is none = (is, none)
      by false is none = absurd (some_none refused.WrongKind none)

  -- no act suits a kind that does not have it
  unfit : (act : Act) (begun : Bool) (kind : Kind) → e.desc.kind ≡ kind → standing_refusal r act (Open place begun) ≡ None → suits act kind ≡ true
  unfit act begun kind is none = subst (λ k. suits act k ≡ true) is (opened act begun none).0

  begun_legal : (kind : Kind) → e.desc.kind ≡ kind → takes_reply kind ≡ false → (acts : List Act) → AreAccepted r (Open place true) acts → AreLater acts
  begun_legal kind is stream [] all = tt
  begun_legal kind is stream (Reply v ∷ acts) all = absurd (true_false (sym (unfit (Reply v) true kind is all.0) ∙ stream))
  begun_legal kind is stream (Fail text ∷ acts) all = none_behind r acts all.1
  begun_legal kind is stream (Begin v ∷ acts) all = absurd (some_none refused.AlreadyBegun (opened (Begin v) true all.0).1)
  begun_legal kind is stream (Decline v ∷ acts) all = absurd (some_none refused.AlreadyBegun (opened (Decline v) true all.0).1)
  begun_legal kind is stream (Give v ∷ acts) all = begun_legal kind is stream acts all.1
  begun_legal kind is stream (End ∷ acts) all = none_behind r acts all.1
  begun_legal kind is stream (Stop ∷ acts) all = none_stopped r acts all.1

  plain_legal : e.desc.kind ≡ Plain → (acts : List Act) → AreAccepted r (Open place false) acts → ArePlain acts
  plain_legal is [] all = tt
  plain_legal is (Reply v ∷ acts) all = none_behind r acts all.1
  plain_legal is (Fail text ∷ acts) all = none_behind r acts all.1
  plain_legal is (Begin v ∷ acts) all = absurd (true_false (sym (unfit (Begin v) false Plain is all.0)))
  plain_legal is (Decline v ∷ acts) all = absurd (true_false (sym (unfit (Decline v) false Plain is all.0)))
  plain_legal is (Give v ∷ acts) all = absurd (true_false (sym (unfit (Give v) false Plain is all.0)))
  plain_legal is (End ∷ acts) all = absurd (true_false (sym (unfit End false Plain is all.0)))
  plain_legal is (Stop ∷ acts) all = absurd (true_false (sym (unfit Stop false Plain is all.0)))

  stream_legal : (kind : Kind) → e.desc.kind ≡ kind → takes_reply kind ≡ false → (acts : List Act) → AreAccepted r (Open place false) acts → AreStream acts
  stream_legal kind is stream [] all = tt
  stream_legal kind is stream (Reply v ∷ acts) all = absurd (true_false (sym (unfit (Reply v) false kind is all.0) ∙ stream))
  stream_legal kind is stream (Fail text ∷ acts) all = none_behind r acts all.1
  stream_legal kind is stream (Begin v ∷ acts) all = begun_legal kind is stream acts all.1
  stream_legal kind is stream (Decline v ∷ acts) all = none_behind r acts all.1
  stream_legal kind is stream (Give v ∷ acts) all = absurd (some_none refused.NotBegun (opened (Give v) false all.0).1)
  stream_legal kind is stream (End ∷ acts) all = absurd (some_none refused.NotBegun (opened End false all.0).1)
  stream_legal kind is stream (Stop ∷ acts) all = absurd (some_none refused.NotBegun (opened Stop false all.0).1)

  nothing_suits : (act : Act) → suits act OneWay ≡ false
  nothing_suits (Reply v) = refl
  nothing_suits (Fail text) = refl
  nothing_suits (Begin v) = refl
  nothing_suits (Decline v) = refl
  nothing_suits (Give v) = refl
  nothing_suits End = refl
  nothing_suits Stop = refl

  one_way_legal : e.desc.kind ≡ OneWay → (acts : List Act) → AreAccepted r (Open place false) acts → acts ≡ []
  one_way_legal is [] all = refl
  one_way_legal is (act ∷ acts) all = absurd (true_false (sym (unfit act false OneWay is all.0) ∙ nothing_suits act))

  pub accepted_legal : (acts : List Act) → AreAccepted r (Open place false) acts → AreLegal e.desc.kind acts
  accepted_legal acts all = by e.desc.kind refl
    where
      by : (kind : Kind) → e.desc.kind ≡ kind → AreLegal kind acts
      by Plain is = plain_legal is acts all
      by OneWay is = one_way_legal is acts all
      by Pipe is = stream_legal Pipe is refl acts all
      by State is = stream_legal State is refl acts all
