-- Movements, moments and closes of any size keep what is so of a world.
use Rattle.std.proofs.Common.{◌≡◌, refl, sym, ap, ◌∙◌, subst, ℕ, zero, suc, ◌+◌, ◌-◌, ◌≤◌, min, Bool, true, false, ◌&&◌, ◌||◌, if◌then◌else◌, [], ◌∷◌, length, drop, nat_eq, arith}
use Rattle.std.specs.Prelude.{Option, Some, None}
use Rattle.std.proofs.lemmas.List.{append-nil}
use Rattle.rpc_msg.specs.declared.message.Message.TheVariants as message
use Rattle.rpc_meeting.specs.Steps.{moved_bytes, move_down, move_up}
use Rattle.rpc_meeting.specs.Talks.{Common, down_beat, up_beat}
use Rattle.rpc_meeting.specs.Worlds.{World, Reason, Late, arrived, close_side, down_piece, down_pieces, has_header, header_size, flying, is_shut, is_due, is_late, sent_at, set_client, set_now, set_server, set_talk, tick_client, tick_server, total, up_piece, up_pieces, whole}
use Rattle.rpc_meeting.proofs.Carried.{carried_down_beat, carried_up_beat}
use Rattle.rpc_meeting.proofs.Goods.{IsGood, good_client, good_down, good_now, good_server, good_talk, good_up, heard_all}
use Rattle.rpc_meeting.proofs.Look.{no_true}
use Rattle.rpc_meeting.proofs.Owners.{IsOk}
use Rattle.rpc_meeting.proofs.Sound.{sound_down_beat, sound_up_beat}

-- ---- pieces

-- what is left of some bytes in flight, when a piece of them has moved
left_over : (all moved n k : ℕ) → n ≤ all - moved → k ≤ n → n - k ≤ all - (moved + k)
left_over all moved n k le few = omega (arith, le, few)

module _ (r : Common) (ok : IsOk r) (by_most : ℕ) where
  pub good_up_pieces : (fuel : ℕ) (w : World) (n : ℕ) → IsGood r w → n ≤ flying w.talk.ups w.up → IsGood r (up_pieces fuel r w n by_most)
  good_up_pieces zero w n g le = g
  good_up_pieces (suc fuel) w n g le = by (is_shut w.server || nat_eq n 0) (good_up_pieces fuel (up_piece r w (min n by_most)) (n - min n by_most))
    where
      piece_few : min n by_most ≤ flying w.talk.ups w.up
      piece_few = omega (arith, le)

      left : n - min n by_most ≤ flying (up_piece r w (min n by_most)).talk.ups (up_piece r w (min n by_most)).up
      left =
          let same_ups = (heard_all r w.talk (drop (length (arrived w)) (whole w.talk.ups (w.up + min n by_most - header_size)))).ups in
          subst (λ l. n - min n by_most ≤ header_size + total l - (w.up + min n by_most)) (sym same_ups)
          (left_over (header_size + total w.talk.ups) w.up n (min n by_most) le (omega arith))

      by : (b : Bool) → (IsGood r (up_piece r w (min n by_most)) → n - min n by_most ≤ flying (up_piece r w (min n by_most)).talk.ups (up_piece r w (min n by_most)).up
          → IsGood r (up_pieces fuel r (up_piece r w (min n by_most)) (n - min n by_most) by_most))
          → IsGood r (if b then w else up_pieces fuel r (up_piece r w (min n by_most)) (n - min n by_most) by_most)
      by true later = g
      by false later = later (good_up r w g ok (min n by_most) piece_few) left

  pub good_down_pieces : (fuel : ℕ) (w : World) (n : ℕ) → IsGood r w → n ≤ flying w.talk.downs w.down → IsGood r (down_pieces fuel w n by_most)
  good_down_pieces zero w n g le = g
  good_down_pieces (suc fuel) w n g le = by (is_shut w.client) refl (nat_eq n 0) (good_down_pieces fuel (down_piece w (min n by_most)) (n - min n by_most))
    where
      by : (c : Bool) → is_shut w.client ≡ c → (b : Bool)
          → (IsGood r (down_piece w (min n by_most)) → n - min n by_most ≤ flying w.talk.downs (w.down + min n by_most)
          → IsGood r (down_pieces fuel (down_piece w (min n by_most)) (n - min n by_most) by_most))
          → IsGood r (if c || b then w else down_pieces fuel (down_piece w (min n by_most)) (n - min n by_most) by_most)
      by true e b later = g
      by false e true later = g
      by false e false later =
          later (good_down r w g e (min n by_most) (omega (arith, le))) (left_over (header_size + total w.talk.downs) w.down n (min n by_most) le (omega arith))

bytes_few : (count : Option ℕ) (flight : ℕ) → moved_bytes count flight ≤ flight
bytes_few None flight = omega arith
bytes_few (Some n) flight = omega arith

pub good_move_up : (r : Common) (w : World) → IsOk r → IsGood r w → (count : Option ℕ) (by : ℕ) → IsGood r (move_up r w count by)
good_move_up r w ok g count by = good_up_pieces r ok by (flying w.talk.ups w.up) w (moved_bytes count (flying w.talk.ups w.up)) g (bytes_few count (flying w.talk.ups w.up))

pub good_move_down : (r : Common) (w : World) → IsOk r → IsGood r w → (count : Option ℕ) (by : ℕ) → IsGood r (move_down w count by)
good_move_down r w ok g count by =
    good_down_pieces r ok by (flying w.talk.downs w.down) w (moved_bytes count (flying w.talk.downs w.down)) g (bytes_few count (flying w.talk.downs w.down))

-- ---- closes

module _ (r : Common) (w : World) (g : IsGood r w) where
  pub good_close_client : (why : Reason) → IsGood r (set_client w (close_side w.client why))
  good_close_client why = good_client r w g (close_side w.client why) (by (is_shut w.client) refl)
    where
      by : (b : Bool) → is_shut w.client ≡ b → is_shut (if is_shut w.client then w.client else record { cause = Some why; heard = w.client.heard; sent = w.client.sent }) ≡ false → is_shut w.client ≡ false
      by true e opened = absurd (no_true (sym e ∙ (ap (λ b. is_shut (if b then w.client else record { cause = Some why; heard = w.client.heard; sent = w.client.sent })) (sym e) ∙ opened)))
      by false e opened = e

  pub good_close_server : (why : Reason) → IsGood r (set_server w (close_side w.server why))
  good_close_server why = good_server r w g (close_side w.server why)

  -- ---- heartbeats

  pub good_up_beat : IsGood r (set_talk w (up_beat w.talk))
  good_up_beat =
      good_talk r w g (up_beat w.talk) (message.Heartbeat ∷ [], refl) ([], sym (append-nil w.talk.downs)) (sound_up_beat r w.talk _ g.sound) g.marks
      (carried_up_beat r w.talk g.carried) g.few

  pub good_down_beat : IsGood r (set_talk w (down_beat w.talk))
  good_down_beat =
      good_talk r w g (down_beat w.talk) ([], sym (append-nil w.talk.ups)) (message.Heartbeat ∷ [], refl) (sound_down_beat r w.talk _ g.sound) g.marks
      (carried_down_beat r w.talk g.carried) g.few

-- ---- moments

module _ (r : Common) (w : World) (g : IsGood r w) where
  beat_client : IsGood r (set_talk (set_client w (sent_at w.client w.now)) (up_beat w.talk))
  beat_client = good_up_beat r (set_client w (sent_at w.client w.now)) (good_client r w g (sent_at w.client w.now) (λ e. e))

  beat_server : IsGood r (set_talk (set_server w (sent_at w.server w.now)) (down_beat w.talk))
  beat_server = good_down_beat r (set_server w (sent_at w.server w.now)) (good_server r w g (sent_at w.server w.now))

  pub good_tick_client : IsGood r (tick_client r w)
  good_tick_client = by (is_shut w.client) (is_late r w.now w.client) (has_header w.got && is_due r w.now w.client)
    where
      by : (a b c : Bool) → IsGood r (if a then w else if b then set_client w (close_side w.client (Late w.client.heard w.now))
          else if c then set_talk (set_client w (sent_at w.client w.now)) (up_beat w.talk) else w)
      by true b c = g
      by false true c = good_close_client r w g (Late w.client.heard w.now)
      by false false true = beat_client
      by false false false = g

  pub good_tick_server : IsGood r (tick_server r w)
  good_tick_server = by (is_shut w.server) (is_late r w.now w.server) (has_header w.up && is_due r w.now w.server)
    where
      by : (a b c : Bool) → IsGood r (if a then w else if b then set_server w (close_side w.server (Late w.server.heard w.now))
          else if c then set_talk (set_server w (sent_at w.server w.now)) (down_beat w.talk) else w)
      by true b c = g
      by false true c = good_close_server r w g (Late w.server.heard w.now)
      by false false true = beat_server
      by false false false = g

pub good_tick : (r : Common) (w : World) → IsGood r w → (n : ℕ) → IsGood r (tick_server r (tick_client r (set_now w n)))
good_tick r w g n = good_tick_server r (tick_client r (set_now w n)) (good_tick_client r (set_now w n) (good_now r w g n))
