-- A replay that goes on by one event.
use Rattle.std.proofs.Common.{◌≡◌, refl, sym, ap, ◌∙◌, subst, ℕ, List, [], ◌∷◌, ◌++◌, map, append_assoc, append-nil}
use Rattle.std.specs.Prelude.{Option, Some, None}
use Rattle.std.specs.Io.KnownBytes.{append_known}
use Rattle.std.specs.List.{concat, flat_map}
use Rattle.std.proofs.lemmas.Grind.{flat_map-append}
use Rattle.std.proofs.lemmas.List.{map-append}
use Rattle.rpc_msg.specs.Limits.{AreLimits, usual_limits}
use Rattle.rpc_schedule.specs.declared.event.Lined.{Lined}
use Rattle.rpc_schema.specs.declared.desc.Entry.{Entry}
use Rattle.rpc_schema.specs.Entries.{AreEntries}
use Rattle.rpc_meeting.specs.declared.answer.StepAnswer.{StepAnswer}
use Rattle.rpc_meeting.specs.Steps.{IsStep, Stepped}
use Rattle.rpc_meeting.specs.Talks.{Common}
use Rattle.rpc_meeting.specs.Worlds.{World, first_world}
use Rattle.rpc_pair.specs.Pairs.{IsNewPair, PairState, all_put}
use Rattle.rpc_pair.specs.Played.{AreTurns, IsPlayed, MakesTurn, Turn, all_down, all_down_put, all_up, all_up_put}
use Rattle.rpc_pair.specs.Rules.{IsOfSchema}
use Rattle.rpc_pair.specs.Sights.{pair_sight, world_sight}
use Rattle.rpc_pair.specs.Wires.{IsHonestly, PutsOver, StandsOver, StartsOver, StepsTo, TurnsOver}
use Rattle.rpc_pair.proofs.Leading.{leads_more}
use Rattle.rpc_pair.proofs.Sights.{same_sight}
use Rattle.rpc_tool.specs.Playing.{PlayedOver, PlayedSo, SteppedOver, told_texts}
use Rattle.rpc_tool.specs.Replayed.{AreFresh, AreScenes, FreshOver, HonestOver, IsScene, Scene, told_scene, told_turn}
use Rattle.rpc_tool.specs.Reports.{Told, answer_text, told_text}

-- ---- one more of a list

concat_more : (xss : List (List ℕ)) (xs : List ℕ) → concat (xss ++ xs ∷ []) ≡ concat xss ++ xs
concat_more [] xs = append-nil xs
concat_more (ys ∷ xss) xs = ap (λ l. ys ++ l) (concat_more xss xs) ∙ sym (append_assoc ys (concat xss) xs)

all_more : (bytes_of : Turn → List ℕ) (turns : List Turn) (t : Turn) → concat (map bytes_of (turns ++ t ∷ [])) ≡ concat (map bytes_of turns) ++ bytes_of t
all_more bytes_of turns t = ap concat (map-append bytes_of turns (t ∷ [])) ∙ concat_more (map bytes_of turns) (bytes_of t)

-- a wire that told some bytes tells more
tells_more : (old new : Option (List ℕ)) (all bytes more : List ℕ) → old ≡ Some all → new ≡ append_known old bytes → more ≡ all ++ bytes → new ≡ Some more
tells_more old new all bytes more told gains is = gains ∙ (ap (λ o. append_known o bytes) told ∙ ap (λ l. Some l) (sym is))

texts_more : {A : Type 0} (told : A → Told) (xs : List A) (x : A) (text : List ℕ) → text ≡ told_texts (map told xs)
    → text ++ told_text (told x) ≡ told_texts (map told (xs ++ x ∷ []))
texts_more told xs x text is =
    ap (λ t. t ++ told_text (told x)) is
    ∙ (ap (λ t. told_texts (map told xs) ++ t) (sym (append-nil (told_text (told x))))
    ∙ (sym (flat_map-append told_text (map told xs) (told x ∷ [])) ∙ ap told_texts (sym (map-append told xs (x ∷ [])))))

-- ---- over any wires

module _ {W : Type 0} (honest : W → Type 0) (sent given : W → Option (List ℕ)) (entries : List Entry) where
  none_more : (l : List ℕ) → l ≡ l ++ []
  none_more l = sym (append-nil l)

  -- headers were put to fresh wires
  pub played_first : (p q : PairState) (up up_new down down_new : W) → FreshOver sent given up down → IsNewPair entries usual_limits p
      → PutsOver sent given p q up up_new down down_new → PlayedOver sent given entries [] [] q up_new down_new
  played_first p q up up_new down down_new fresh new puts = record {
    turns = [];
    played = record {
      first = p;
      fresh = new;
      all = refl;
      run = sym puts.state;
      up_told = tells_more (sent up) (sent up_new) [] p.book.link.output _ fresh.up_put puts.up_sent (append-nil p.book.link.output);
      up_came = puts.up_given ∙ fresh.up_given_none;
      down_told = tells_more (sent down) (sent down_new) [] p.server.link.output _ fresh.down_put puts.down_sent (append-nil p.server.link.output);
      down_came = puts.down_given ∙ fresh.down_given_none;
    };
    texts = refl;
  }

  -- one turn more
  pub played_more : (done : List Lined) (text : List ℕ) (p q : PairState) (up up_new down down_new : W) (l : Lined) (answer : StepAnswer)
      → PlayedOver sent given entries done text p up down → TurnsOver honest sent given up up_new down down_new p l.event answer q
      → PlayedOver sent given entries (done ++ l ∷ []) (text ++ answer_text l answer (pair_sight q)) q up_new down_new
  played_more done text p q up up_new down down_new l answer so turns =
      let t : Turn = record { lined = l; traffic = turns.traffic; answer = answer; behind = q } in
      let was = so.played in
      let first = was.first in
      record {
        turns = so.turns ++ t ∷ [];
        played = record {
          first = first;
          fresh = was.fresh;
          all = map-append (λ (t : Turn). t.lined) so.turns (t ∷ []) ∙ ap (λ ls. ls ++ l ∷ []) was.all;
          run = leads_more MakesTurn (all_put first) p q so.turns t was.run (refl, turns.turn);
          up_told = tells_more (sent up) (sent up_new) _ turns.traffic.up_put _ was.up_told turns.up_tells.put_is
              (ap (λ bs. first.book.link.output ++ bs) (all_more (λ (t : Turn). t.traffic.up_put) so.turns t)
              ∙ sym (append_assoc first.book.link.output (all_up_put so.turns) turns.traffic.up_put));
          up_came = tells_more (given up) (given up_new) _ turns.traffic.up_came.bytes _ was.up_came turns.up_tells.came_is
              (all_more (λ (t : Turn). t.traffic.up_came.bytes) so.turns t);
          down_told = tells_more (sent down) (sent down_new) _ turns.traffic.down_put _ was.down_told turns.down_tells.put_is
              (ap (λ bs. first.server.link.output ++ bs) (all_more (λ (t : Turn). t.traffic.down_put) so.turns t)
              ∙ sym (append_assoc first.server.link.output (all_down_put so.turns) turns.traffic.down_put));
          down_came = tells_more (given down) (given down_new) _ turns.traffic.down_came.bytes _ was.down_came turns.down_tells.came_is
              (all_more (λ (t : Turn). t.traffic.down_came.bytes) so.turns t);
        };
        texts = texts_more told_turn so.turns t text so.texts;
      }

  -- ---- over honest wires

  pub stepped_first : (p q : PairState) (up up_new down down_new : W) → HonestOver honest sent given up down → IsNewPair entries usual_limits p
      → AreEntries entries → AreLimits usual_limits → ((r : Common) → StartsOver sent given r p up down → StandsOver sent given r first_world q up_new down_new)
      → SteppedOver sent given entries [] [] q up_new down_new
  stepped_first p q up up_new down down_new are new lines limits starts =
      let (listings, menu, bytes) = new.server.menu_is in
      let r : Common = record { entries = entries; limits = usual_limits; menu = listings } in
      let schema : IsOfSchema r = record { entries = lines; limits = limits; menu = menu } in
      record {
        rules = r;
        entries_are = refl;
        limits_are = refl;
        schema = schema;
        scenes = [];
        world = first_world;
        all = refl;
        run = refl;
        stands = starts r (record {
          schema = schema;
          pair = new;
          up_sent = are.fresh.up_put;
          up_given = are.fresh.up_given_none;
          down_sent = are.fresh.down_put;
          down_given = are.fresh.down_given_none;
        });
        texts = refl;
      }

  pub stepped_more : (done : List Lined) (text : List ℕ) (p q : PairState) (up up_new down down_new : W) (l : Lined) (answer : StepAnswer)
      → (so : SteppedOver sent given entries done text p up down) → StepsTo sent given so.rules so.world l.event answer q up_new down_new
      → SteppedOver sent given entries (done ++ l ∷ []) (text ++ answer_text l answer (pair_sight q)) q up_new down_new
  stepped_more done text p q up up_new down down_new l answer so steps =
      let r = so.rules in
      let next = steps.to.world in
      let s : Scene = record { lined = l; answer = answer; behind = next } in
      let step : IsStep r so.world l.event (record { world = next; outcome = answer }) =
      subst (λ a. IsStep r so.world l.event (record { world = next; outcome = a })) steps.outcome steps.step in
      let sight = same_sight r so.schema next q (sent up_new) (given up_new) (sent down_new) (given down_new) steps.stands in
      record {
        rules = r;
        entries_are = so.entries_are;
        limits_are = so.limits_are;
        schema = so.schema;
        scenes = so.scenes ++ s ∷ [];
        world = next;
        all = map-append (λ (s : Scene). s.lined) so.scenes (s ∷ []) ∙ ap (λ ls. ls ++ l ∷ []) so.all;
        run = leads_more (IsScene r) first_world so.world next so.scenes s so.run (refl, step);
        stands = steps.stands;
        texts = ap (λ seen. text ++ answer_text l answer seen) sight ∙ texts_more (told_scene r) so.scenes s text so.texts;
      }
