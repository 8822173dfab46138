-- What a feed says, by what the end took and what was heard.
use Rattle.std.proofs.Common.{◌≡◌, refl, sym, ap, ◌∙◌, subst, inl, inr, ℕ, List}
use Rattle.std.specs.Prelude.{Result, Ok, Err}
use Rattle.rpc_msg.specs.declared.shared.FeedError.{FeedError}
use Rattle.rpc_msg.specs.declared.shared.FeedError.TheVariants as feed
use Rattle.rpc_msg.specs.declared.shared.Limits.{Limits}
use Rattle.rpc_end.specs.Ends.{EndState}
use Rattle.rpc_end.specs.Taking.{IsNextOf}
use Rattle.rpc_end.specs.declared.end.Got.{Got}
use Rattle.rpc_end.specs.declared.end.Next.TheVariants as next
use Rattle.rpc_client.specs.Rows.{Row}
use Rattle.rpc_client.specs.Clients.{ClientState, with_link, IsClientFed, TakesIn}

-- a message was taken in
pub fed_message : (old : ClientState) (e : EndState) (piece : List ℕ) (now : ℕ) (got : Got) (answer : Result ℕ FeedError) (new : ClientState)
    → IsNextOf old.link piece now (Ok (next.Message got)) e → TakesIn (with_link old e) got now answer new → IsClientFed old piece now answer new
fed_message old e piece now got (Ok used) new took (answer, is) = inr (record { got = got; behind = e; took = took; answer_is = answer; new_is = is })
fed_message old e piece now got (Err (feed.Closed why)) new took (answer, is) = inr (record { got = got; behind = e; took = took; answer_is = answer; new_is = is })
fed_message old e piece now got (Err feed.OutOfMemory) new (open_, took) is =
    let back : new ≡ old = is ∙ ap (with_link old) took.back in
    inl ((open_, ap (λ c. c.link) back), back ∙ ap (with_link old) (sym (ap (λ c. c.link) back)))

-- no message was
pub fed_part : (old : ClientState) (bounds : Limits) (rows : List Row) (link new : EndState) (piece : List ℕ) (now used : ℕ) → ◌≡◌ {A = ClientState} (record { limits = bounds; rows = rows; link = link }) old
    → IsNextOf link piece now (Ok (next.Part used)) new → IsClientFed old piece now (Ok used) (record { limits = bounds; rows = rows; link = new })
fed_part old bounds rows link new piece now used same took = subst (λ o. IsClientFed o piece now (Ok used) (record { limits = bounds; rows = rows; link = new })) same (inl (took, refl))

pub fed_stop : (old : ClientState) (bounds : Limits) (rows : List Row) (link new : EndState) (piece : List ℕ) (now : ℕ) (why : FeedError) → ◌≡◌ {A = ClientState} (record { limits = bounds; rows = rows; link = link }) old
    → IsNextOf link piece now (Err why) new → IsClientFed old piece now (Err why) (record { limits = bounds; rows = rows; link = new })
fed_stop old bounds rows link new piece now why same took = subst (λ o. IsClientFed o piece now (Err why) (record { limits = bounds; rows = rows; link = new })) same (inl (took, refl))

pub fed_taken : (old mid : ClientState) (piece : List ℕ) (now : ℕ) (got : Got) (answer : Result ℕ FeedError) (new : ClientState) → mid ≡ with_link old mid.link
    → IsNextOf old.link piece now (Ok (next.Message got)) mid.link → TakesIn mid got now answer new → IsClientFed old piece now answer new
fed_taken old mid piece now got answer new same took takes = fed_message old mid.link piece now got answer new took (subst (λ m. TakesIn m got now answer new) same takes)
