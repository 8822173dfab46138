use Rattle.std.proofs.Common.{◌≡◌, refl, sym, ap, ◌∙◌, subst, Err}
use Rattle.std.specs.Prelude.{MatchOption}
use Rattle.bp_codec.specs.Held.{IsHeld}
use Rattle.bp_num.proofs.Payloads.{bytes_are}
use Rattle.bp_codec.proofs.Pieces.{bytes_joined, kept_by, left_some, whole_told, whole_only, bad_told, bad_only, more_told, more_only, more_fed}
use Rattle.bp_codec.proofs.reader.Reader.feed.Goals as goal

pub returns-in-Ok-clause-fed : goal.returns-in-Ok-clause-fed
returns-in-Ok-clause-fed c = λ m f s fed. record {
  told = whole_told m f s c.args.self.now fed c.in-Reading.machine (sym c.replace.ensures.value ∙ c.in-Reading.is) c.args.piece.now (bytes_are c.args.piece.now c.type_inv.piece) c.joined-bytes.result.now (bytes_joined c.args.self.now.held.items c.replace-held.result.items c.args.piece.now c.hold.new.held.items c.deref.result.now c.joined-bytes.result.now (ap (λ v. v.items) c.replace-held.ensures.value) c.in_ok-hold.ensures c.deref.ensures.value c.joined-bytes.ensures) c.read_on-result.new.self c.read_on-result.result.1.now c.read_on-result.result.0 c.read_on-result.ensures.ends c.in-Ok.value _ c.in-Ok.is c.saturating_sub-used.ensures;
  only = whole_only m f s c.args.self.now fed c.in-Reading.machine (sym c.replace.ensures.value ∙ c.in-Reading.is) c.args.piece.now (bytes_are c.args.piece.now c.type_inv.piece) c.joined-bytes.result.now (bytes_joined c.args.self.now.held.items c.replace-held.result.items c.args.piece.now c.hold.new.held.items c.deref.result.now c.joined-bytes.result.now (ap (λ v. v.items) c.replace-held.ensures.value) c.in_ok-hold.ensures c.deref.ensures.value c.joined-bytes.ensures) c.read_on-result.new.self c.read_on-result.result.1.now c.read_on-result.result.0 c.read_on-result.ensures.ends c.in-Ok.value _ c.in-Ok.is c.saturating_sub-used.ensures;
  goes_on = λ is. absurd cc;
}

pub returns-in-Bad-clause-fed : goal.returns-in-Bad-clause-fed
returns-in-Bad-clause-fed c = λ m f s fed. record {
  told = bad_told m f s c.args.self.now fed c.in-Reading.machine (sym c.replace.ensures.value ∙ c.in-Reading.is) c.args.piece.now (bytes_are c.args.piece.now c.type_inv.piece) c.joined-bytes.result.now (bytes_joined c.args.self.now.held.items c.replace-held.result.items c.args.piece.now c.hold.new.held.items c.deref.result.now c.joined-bytes.result.now (ap (λ v. v.items) c.replace-held.ensures.value) c.in_ok-hold.ensures c.deref.ensures.value c.joined-bytes.ensures) c.read_on-result.new.self c.read_on-result.result.1.now c.read_on-result.result.0 c.read_on-result.ensures.ends c.in-Bad.why c.saturating_sub-used.result _ (c.in-Err.is ∙ ap (λ e. Err e) c.in-Bad.is) c.saturating_sub-used.ensures c.saturating_add-at.ensures;
  only = bad_only m f s c.args.self.now fed c.in-Reading.machine (sym c.replace.ensures.value ∙ c.in-Reading.is) c.args.piece.now (bytes_are c.args.piece.now c.type_inv.piece) c.joined-bytes.result.now (bytes_joined c.args.self.now.held.items c.replace-held.result.items c.args.piece.now c.hold.new.held.items c.deref.result.now c.joined-bytes.result.now (ap (λ v. v.items) c.replace-held.ensures.value) c.in_ok-hold.ensures c.deref.ensures.value c.joined-bytes.ensures) c.read_on-result.new.self c.read_on-result.result.1.now c.read_on-result.result.0 c.read_on-result.ensures.ends c.in-Bad.why c.saturating_sub-used.result _ (c.in-Err.is ∙ ap (λ e. Err e) c.in-Bad.is) c.saturating_sub-used.ensures c.saturating_add-at.ensures;
  goes_on = λ is. absurd cc;
}

pub returns-in_ok-copied-in-More-clause-fed : goal.returns-in_ok-copied-in-More-clause-fed
returns-in_ok-copied-in-More-clause-fed c = λ m f s fed.
    let some = left_some c.replace-held.result.items c.args.piece.now c.hold.new.held.items c.deref.result.now c.joined-bytes.result.now c.read_on-result.result.1.now c.in_ok-hold.ensures c.deref.ensures.value c.joined-bytes.ensures (c.read_on-result.ensures.cut (c.in-Err.is ∙ ap (λ e. Err e) c.in-More.is)) in
    let copy = c.in_ok-copied-in-More.ensures c.replace-held.result.items (subst (λ v. IsHeld c.replace-held.result.items c.args.piece.now v) (sym c.deref-in-More.ensures.value) c.in_ok-hold.ensures) some in
    let kept : c.unwrap_or.result.items ≡ c.read_on-result.result.1.now = ap (λ v. v.items) c.unwrap_or.ensures ∙ kept_by c.in_ok-copied-in-More.field-0 _ (λ v. v.items) c.read_on-result.result.1.now (subst (λ h. MatchOption c.in_ok-copied-in-More.field-0 (h ≡ c.read_on-result.result.1.now) (λ v. v.items ≡ c.read_on-result.result.1.now)) c.deref-in-More.ensures.value copy) in
    record {
      told = more_told m f s c.args.self.now fed c.in-Reading.machine (sym c.replace.ensures.value ∙ c.in-Reading.is) c.args.piece.now (bytes_are c.args.piece.now c.type_inv.piece) c.joined-bytes.result.now (bytes_joined c.args.self.now.held.items c.replace-held.result.items c.args.piece.now c.hold.new.held.items c.deref.result.now c.joined-bytes.result.now (ap (λ v. v.items) c.replace-held.ensures.value) c.in_ok-hold.ensures c.deref.ensures.value c.joined-bytes.ensures) c.read_on-result.new.self c.read_on-result.result.1.now c.read_on-result.result.0 c.read_on-result.ensures.ends (c.in-Err.is ∙ ap (λ e. Err e) c.in-More.is);
      only = more_only m f s c.args.self.now fed c.in-Reading.machine (sym c.replace.ensures.value ∙ c.in-Reading.is) c.args.piece.now (bytes_are c.args.piece.now c.type_inv.piece) c.joined-bytes.result.now (bytes_joined c.args.self.now.held.items c.replace-held.result.items c.args.piece.now c.hold.new.held.items c.deref.result.now c.joined-bytes.result.now (ap (λ v. v.items) c.replace-held.ensures.value) c.in_ok-hold.ensures c.deref.ensures.value c.joined-bytes.ensures) c.read_on-result.new.self c.read_on-result.result.1.now c.read_on-result.result.0 c.read_on-result.ensures.ends (c.in-Err.is ∙ ap (λ e. Err e) c.in-More.is);
      goes_on = λ is. more_fed m f s c.args.self.now fed c.in-Reading.machine (sym c.replace.ensures.value ∙ c.in-Reading.is) c.args.piece.now (bytes_are c.args.piece.now c.type_inv.piece) c.joined-bytes.result.now (bytes_joined c.args.self.now.held.items c.replace-held.result.items c.args.piece.now c.hold.new.held.items c.deref.result.now c.joined-bytes.result.now (ap (λ v. v.items) c.replace-held.ensures.value) c.in_ok-hold.ensures c.deref.ensures.value c.joined-bytes.ensures) c.read_on-result.new.self c.read_on-result.result.1.now c.read_on-result.result.0 c.read_on-result.ensures.ends (c.in-Err.is ∙ ap (λ e. Err e) c.in-More.is) _ kept _ refl refl refl refl c.saturating_add-self.ensures;
    }
