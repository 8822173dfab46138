-- What a book says by itself asks nothing.
use Rattle.std.proofs.Common.{◌≡◌, refl, sym, ap, ◌∙◌, subst, inl, inr, ◌⊎◌, ℕ, Bool, true, false, if◌then◌else◌, List, [], ◌∷◌, ◌++◌}
use Rattle.std.specs.Prelude.{Option, Some, None, Result, Ok, Err, IfOk, OnErr}
use Rattle.std.proofs.lemmas.List.{append-nil}
use Rattle.rpc_frame.specs.Frames.{frame}
use Rattle.rpc_msg.specs.Beats.{BeatState, after_beat, beat_of}
use Rattle.rpc_msg.specs.declared.beat.BeatAct.{BeatAct}
use Rattle.rpc_msg.specs.declared.beat.BeatAct.TheVariants as act
use Rattle.rpc_msg.specs.declared.message.Message.{Message}
use Rattle.rpc_msg.specs.declared.message.Message.TheVariants as message
use Rattle.rpc_msg.specs.declared.shared.CloseCause.{CloseCause}
use Rattle.rpc_msg.specs.declared.shared.FeedError.{FeedError}
use Rattle.rpc_msg.specs.declared.shared.FeedError.TheVariants as feed
use Rattle.rpc_msg.specs.declared.shared.Ticked.{Ticked}
use Rattle.rpc_talk.specs.Acts.{body_of}
use Rattle.rpc_end.specs.Ends.{EndState, acted, after_act, after_tick, heard, is_closed, is_link_open, said, shut, shut_by, tick_answer, with_beat}
use Rattle.rpc_end.specs.Taking.{IsClosedBy, IsPartTaken}
use Rattle.rpc_client.specs.Clients.{ClientState, answering, closed_for, no_procedure, with_link as with_client_link}
use Rattle.rpc_book.specs.Books.{BookState}
use Rattle.rpc_book.specs.Feeds.{AsksNothing, FeedCloses, HearsMessage, IsBookFed, PassesFault, PassesPart, SaysByItself, closes_for, own_answer}

-- nothing is said
pub says_nothing : (old new : EndState) → new.output ≡ old.output → SaysByItself old new
says_nothing old new same = record { said = []; calm = tt; output = same ∙ sym (append-nil old.output) }

-- one message is
says_one : (old new : EndState) (a : Message) → AsksNothing a → new.output ≡ old.output ++ frame (body_of a) → SaysByItself old new
says_one old new a calm same = record { said = a ∷ []; calm = (calm, tt); output = same ∙ ap (λ s. old.output ++ s) (sym (append-nil (frame (body_of a)))) }

-- ---- a feed

shut_output : (e : EndState) (why : CloseCause) → (shut e why).output ≡ e.output
shut_output e why = by e.cause
  where
    by : (o : Option CloseCause) → (shut_by e why o).output ≡ e.output
    by None = refl
    by (Some old) = refl

closed_output : (e : EndState) (o : Option CloseCause) → (closed_for e o).output ≡ e.output
closed_output e None = refl
closed_output e (Some why) = shut_output e why

part_output : (old : EndState) (piece : List ℕ) (now n : ℕ) (new : EndState) → IsPartTaken old piece now n new → new.output ≡ old.output
part_output old piece now n new (inl (on, all, is)) = ap (λ e. e.output) is
part_output old piece now n new (inr (body, ends, first, opens, is)) = ap (λ e. e.output) is

fault_output : (old : EndState) (piece : List ℕ) (why : CloseCause) (new : EndState) → IsClosedBy old piece why new → new.output ≡ old.output
fault_output old piece why new (inl (n, passes, why_is, is)) = ap (λ e. e.output) is
fault_output old piece why new (inr (body, used, ends, unread, is)) = ap (λ e. e.output) is

answer_says : (m : ℕ) (old behind : EndState) (now : ℕ) (o : Option CloseCause) (a : Message) → behind.output ≡ old.output
    → SaysByItself old (closed_for (heard (answering behind (own_answer m a)) now) o)
answer_says m old behind now o message.Heartbeat same = says_nothing old _ (closed_output (heard behind now) o ∙ same)
answer_says m old behind now o (message.Query q) same =
    says_one old _ (no_procedure m q) tt (closed_output (heard (said behind (no_procedure m q)) now) o ∙ ap (λ s. s ++ frame (body_of (no_procedure m q))) same)
answer_says m old behind now o (message.Response r) same = says_nothing old _ (closed_output (heard behind now) o ∙ same)

message_says : (old : BookState) (piece : List ℕ) (now n : ℕ) (why : Option CloseCause) (new : BookState) → HearsMessage old piece now n why new → SaysByItself old.link new.link
message_says old piece now n why new one =
    subst (SaysByItself old.link) (sym (ap (λ b. b.link) one.new_is))
    (answer_says old.limits.max_message old.link one.behind now (closes_for old one.got.message) one.got.message (ap (λ e. e.output) one.gives.new_is))

closes_says : (old : BookState) (piece : List ℕ) (now : ℕ) (why : CloseCause) (new : BookState) → FeedCloses old piece now why new → SaysByItself old.link new.link
closes_says old piece now why new (inl (closed, same)) = says_nothing old.link new.link (ap (λ b. b.link.output) same)
closes_says old piece now why new (inr (inl (open_, full, because, same))) = says_nothing old.link new.link (ap (λ b. b.link.output) same ∙ shut_output old.link why)
closes_says old piece now why new (inr (inr (open_, (n, closes)))) = by closes.did
  where
    by : PassesFault old piece n why new ⊎ HearsMessage old piece now n (Some why) new → SaysByItself old.link new.link
    by (inl (fault, same)) = says_nothing old.link new.link (fault_output old.link piece why new.link fault)
    by (inr one) = message_says old piece now n (Some why) new one

pub fed_says : (old : BookState) (piece : List ℕ) (now : ℕ) (answer : Result ℕ FeedError) (new : BookState) → IsBookFed old piece now answer new → SaysByItself old.link new.link
fed_says old piece now (Ok n) new (open_, takes) = by takes.did
  where
    by : PassesPart old piece now n new ⊎ HearsMessage old piece now n None new → SaysByItself old.link new.link
    by (inl (part, same)) = says_nothing old.link new.link (part_output old.link piece now n new.link part)
    by (inr one) = message_says old piece now n None new one
fed_says old piece now (Err (feed.Closed why)) new closes = closes_says old piece now why new closes
fed_says old piece now (Err feed.OutOfMemory) new (open_, same) = says_nothing old.link new.link (ap (λ b. b.link.output) same)

-- ---- a moment

pub tick_says : (e : EndState) (now : ℕ) → SaysByItself e (after_tick e now)
tick_says e now = by (is_closed e)
  where
    by_act : (what : BeatAct) (beat : BeatState) → SaysByItself e (after_act (with_beat e beat) what)
    by_act act.Quiet beat = says_nothing e _ refl
    by_act act.Send beat = says_one e _ message.Heartbeat tt refl
    by_act (act.Late last at) beat = says_nothing e _ refl

    by : (b : Bool) → SaysByItself e (if b then e else acted e now (beat_of e.beat now (is_link_open e)))
    by true = says_nothing e e refl
    by false = by_act (beat_of e.beat now (is_link_open e)) (after_beat e.beat now (beat_of e.beat now (is_link_open e)))

pub ticked_says : {E : Type 0} (r : Result Ticked E) (old new : ClientState) (now : ℕ) → IfOk r (λ t. (t ≡ tick_answer old.link now) × (new ≡ with_client_link old (after_tick old.link now)))
    → OnErr r (new ≡ old) → SaysByItself old.link new.link
ticked_says (Ok t) old new now (told, same) err = subst (SaysByItself old.link) (sym (ap (λ x. x.link) same)) (tick_says old.link now)
ticked_says (Err e) old new now ok same = says_nothing old.link new.link (ap (λ x. x.link.output) same)
