-- The ends of the frames of what an end wrote, by how many bytes of it came.
use Rattle.std.proofs.Common.{◌≡◌, refl, sym, ap, subst, ℕ, ◌+◌, ◌-◌, ◌≤◌, ◌<◌, Bool, true, false, nat_le, if◌then◌else◌, List, [], ◌∷◌, ◌++◌, map, length, arith, inl, inr, ◌⊎◌}
use Rattle.std.proofs.lemmas.List.{length-append}
use Rattle.rpc_frame.specs.Frames.{frame, frames}
use Rattle.rpc_msg.specs.declared.message.Message.{Message}
use Rattle.rpc_talk.specs.Acts.{body_of, own_header}
use Rattle.rpc_meeting.specs.Worlds.{boundary, came_bodies, has_header, header_size, stream_of, total, whole}
use Rattle.rpc_meeting.proofs.Whole.{le_true, tells_le, whole_grows}
use Rattle.rpc_pair.proofs.Pieces.{log_join}

-- the frames of a log have as many bytes as it counts
pub total_frames : (log : List Message) → total log ≡ length (frames (map body_of log))
total_frames [] = refl
total_frames (a ∷ log) = omega (arith, total_frames log, length-append (frame (body_of a)) (frames (map body_of log)))

pub stream_size : (log : List Message) → length (stream_of log) ≡ header_size + total log
stream_size log = omega (arith, total_frames log, length-append (frame own_header) (frames (map body_of log)))

-- the last end is that of the bodies that came
pub edge_frames : (log : List Message) (n : ℕ) → boundary log n ≡ length (frames (came_bodies log n))
edge_frames log n = by (has_header n)
  where
    by : (b : Bool) → (if b then header_size + total (whole log (n - header_size)) else 0) ≡ length (frames (if b then own_header ∷ map body_of (whole log (n - header_size)) else []))
    by true = omega (arith, total_frames (whole log (n - header_size)), length-append (frame own_header) (frames (map body_of (whole log (n - header_size)))))
    by false = refl

-- more bytes have no earlier end
pub edges_grow : (log : List Message) (a b : ℕ) → a ≤ b → boundary log a ≤ boundary log b
edges_grow log a b le = by (tells_le header_size a)
  where
    rest : total (whole log (a - header_size)) ≤ total (whole log (b - header_size))
    rest =
        let (fresh, is) = whole_grows log (a - header_size) (b - header_size - (a - header_size)) in
        let count : a - header_size + (b - header_size - (a - header_size)) ≡ b - header_size = omega (arith, le) in
        omega (
          arith,
          ap (λ n. total (whole log n)) count,
          ap total is,
          total_frames (whole log (a - header_size) ++ fresh),
          ap length (log_join (whole log (a - header_size)) fresh),
          length-append (frames (map body_of (whole log (a - header_size)))) (frames (map body_of fresh)),
          total_frames (whole log (a - header_size)),
        )

    by : ((nat_le header_size a ≡ true) × (header_size ≤ a)) ⊎ ((nat_le header_size a ≡ false) × (a < header_size)) → boundary log a ≤ boundary log b
    by (inl (e, low)) =
        let high : has_header b ≡ true = le_true header_size b (omega (arith, le, low)) in
        subst (λ c. (if c then header_size + total (whole log (a - header_size)) else 0) ≤ boundary log b) (sym e)
        (subst (λ c. header_size + total (whole log (a - header_size)) ≤ (if c then header_size + total (whole log (b - header_size)) else 0)) (sym high) (omega (arith, rest)))
    by (inr (e, low)) = subst (λ c. (if c then header_size + total (whole log (a - header_size)) else 0) ≤ boundary log b) (sym e) (omega arith)
