-- From statuses to their codes.
use Rattle.std.proofs.Common.{arith, ◌≡◌, ℕ, refl, sym, ap, ◌∙◌}
use Rattle.bp_base.specs.Faults.{Counts, BothGoOn}
use Rattle.rpc_tool.specs.declared.status.Status.{Status}
use Rattle.rpc_tool.specs.declared.status.Status.TheVariants.{Done, Refused, BadShape, Usage, ReadFault, WriteFault, WireFault, OutOfMemory, TooLong}
use Rattle.rpc_tool.specs.Means.{code_of}

-- the codes of faults are of no other status
pub read_code : (s : Status) → code_of s ≡ code_of ReadFault → s ≡ ReadFault
read_code Done e = absurd (omega (arith, e))
read_code Refused e = absurd (omega (arith, e))
read_code BadShape e = absurd (omega (arith, e))
read_code Usage e = absurd (omega (arith, e))
read_code ReadFault e = refl
read_code WriteFault e = absurd (omega (arith, e))
read_code WireFault e = absurd (omega (arith, e))
read_code OutOfMemory e = absurd (omega (arith, e))
read_code TooLong e = absurd (omega (arith, e))

pub write_code : (s : Status) → code_of s ≡ code_of WriteFault → s ≡ WriteFault
write_code Done e = absurd (omega (arith, e))
write_code Refused e = absurd (omega (arith, e))
write_code BadShape e = absurd (omega (arith, e))
write_code Usage e = absurd (omega (arith, e))
write_code ReadFault e = absurd (omega (arith, e))
write_code WriteFault e = refl
write_code WireFault e = absurd (omega (arith, e))
write_code OutOfMemory e = absurd (omega (arith, e))
write_code TooLong e = absurd (omega (arith, e))

pub wire_code : (s : Status) → code_of s ≡ code_of WireFault → s ≡ WireFault
wire_code Done e = absurd (omega (arith, e))
wire_code Refused e = absurd (omega (arith, e))
wire_code BadShape e = absurd (omega (arith, e))
wire_code Usage e = absurd (omega (arith, e))
wire_code ReadFault e = absurd (omega (arith, e))
wire_code WriteFault e = absurd (omega (arith, e))
wire_code WireFault e = refl
wire_code OutOfMemory e = absurd (omega (arith, e))
wire_code TooLong e = absurd (omega (arith, e))

-- counts over a call, by the code in place of the status
module _ (fault status : Status) (code : ℕ) (is : code ≡ code_of status) (only : code_of status ≡ code_of fault → status ≡ fault) where
  pub coded_counts : {T : Type 0} (faults_of : T → ℕ) (old new : T) → Counts faults_of old new (status ≡ fault) → Counts faults_of old new (code ≡ code_of fault)
  coded_counts faults_of old new c = record {
    later = c.later;
    rose = λ e. c.rose (only (sym is ∙ e));
    steady = λ other. c.steady (λ same. other (is ∙ ap code_of same));
  }

  pub coded_both : {W : Type 0} (faults_of : W → ℕ) (honest : W → Type 0) (up_old up_new down_old down_new : W)
      → BothGoOn faults_of honest up_old up_new down_old down_new (status ≡ fault) → BothGoOn faults_of honest up_old up_new down_old down_new (code ≡ code_of fault)
  coded_both faults_of honest up_old up_new down_old down_new b = record {
    up_honest = b.up_honest;
    down_honest = b.down_honest;
    up_later = b.up_later;
    down_later = b.down_later;
    rose = λ e. b.rose (only (sym is ∙ e));
    up_steady = λ other. b.up_steady (λ same. other (is ∙ ap code_of same));
    down_steady = λ other. b.down_steady (λ same. other (is ∙ ap code_of same));
  }
