-- From the last event to the report.
use Rattle.std.proofs.Common.{arith, ◌≡◌, refl, sym, ap, ◌∙◌, subst, ℕ, List, ◌++◌, map}
use Rattle.std.specs.Prelude.{Option, Some}
use Rattle.rpc_schedule.specs.declared.event.Lined.{Lined}
use Rattle.rpc_schedule.specs.declared.schedule.Schedule.{Schedule}
use Rattle.rpc_pair.specs.Pairs.{PairState}
use Rattle.rpc_pair.specs.Sights.{Sight, pair_sight, world_sight}
use Rattle.rpc_msg.specs.Limits.{AreLimits, usual_limits}
use Rattle.rpc_pair.proofs.SeenAll.{played_shows}
use Rattle.rpc_pair.proofs.Sights.{same_sight}
use Rattle.rpc_tool.specs.Replayed.{IsReplayed, IsReported, ReplayedOver, ReportedOver, told_scene, told_turn}
use Rattle.rpc_tool.specs.Reports.{closing_text}
use Rattle.rpc_tool.specs.Playing.{PlayedSo, SteppedOver, told_texts}

pub usual_within : AreLimits usual_limits
usual_within = record { message = (omega arith, omega arith); count = (omega arith, omega arith); every = (omega arith, omega arith); timeout = (omega arith, omega arith) }

pub reported : (s : Schedule) (text report : List ℕ) (p : PairState) (up_sent up_given down_sent down_given : Option (List ℕ))
    → PlayedSo s.schema s.events text p up_sent up_given down_sent down_given → report ≡ text ++ closing_text (pair_sight p)
    → IsReported s report up_sent up_given down_sent down_given
reported s text report p up_sent up_given down_sent down_given so is = record {
  turns = so.turns;
  last = p;
  played = so.played;
  shows = played_shows s.schema usual_limits s.events so.turns p up_sent up_given down_sent down_given usual_within so.played;
  text = is ∙ ap (λ t. t ++ closing_text (pair_sight p)) so.texts;
}

pub replayed : {W : Type 0} (sent given : W → Option (List ℕ)) (s : Schedule) (text report : List ℕ) (p : PairState) (up down : W)
    → SteppedOver sent given s.schema s.events text p up down → report ≡ text ++ closing_text (pair_sight p)
    → ReplayedOver sent given up down s report
replayed sent given s text report p up down so is =
    let seen : pair_sight p ≡ world_sight so.rules so.world = same_sight so.rules so.schema so.world p (sent up) (given up) (sent down) (given down) so.stands in
    record {
      rules = so.rules;
      common = record { entries = so.entries_are; limits = so.limits_are; schema = so.schema };
      scenes = so.scenes;
      last = so.world;
      all = so.all;
      run = so.run;
      text = is ∙ (ap (λ t. t ++ closing_text (pair_sight p)) so.texts ∙ ap (λ seen. told_texts (map (told_scene so.rules) so.scenes) ++ closing_text seen) seen);
      up_told = so.stands.up.sent_is;
      up_came = so.stands.up.given_is;
      down_told = so.stands.down.sent_is;
      down_came = so.stands.down.given_is;
    }
