-- A body is of at most one header and at most one message, and has no fault where it is of one.
use Rattle.std.proofs.Common.{◌≡◌, refl, sym, ap, ◌∙◌, subst, inl, inr, ◌⊎◌, ℕ, ℤ, suc, ◌+◌, min, List, [], ◌∷◌, ◌++◌, length, map, take, drop, append_assoc, append-nil, arith}
use Rattle.std.proofs.lemmas.List.{length-append, length-take, take-append-drop}
use Rattle.readers.specs.Reader.{IsByte, IsFaultAt, IsProperFront}
use Rattle.readers.proofs.Places.{prefix_free}
use Rattle.readers.proofs.Readers.{cut_two, snoc}
use Rattle.bp_value.specs.declared.value.Value.{Value}
use Rattle.bp_value.specs.declared.value.Value.TheVariants as val
use Rattle.bp_value.specs.Form.{Form}
use Rattle.bp_value.proofs.Layers.{case_is, case_place, items_is, num_is, parts_is, sexp_is, text_is}
use Rattle.bp_grammar.specs.Reading.{read}
use Rattle.bp_grammar.specs.Reasons.{FaultWhy}
use Rattle.bp_grammar.specs.Spells.{Spells}
use Rattle.bp_grammar.proofs.Right.{IsRead}
use Rattle.rpc_msg.specs.Bodies.{IsMsgFault}
use Rattle.rpc_msg.specs.Values.{answer_value, error_value, header_value, message_value, query_value, response_value}
use Rattle.rpc_msg.specs.declared.fault.MsgFault.{MsgFault}
use Rattle.rpc_msg.specs.declared.fault.MsgFault.TheVariants as fault
use Rattle.rpc_msg.specs.declared.message.Header.{Header}
use Rattle.rpc_msg.specs.declared.message.Query.{Query}
use Rattle.rpc_msg.specs.declared.message.Response.{Response}
use Rattle.rpc_msg.specs.declared.message.Answer.{Answer}
use Rattle.rpc_msg.specs.declared.message.Answer.TheVariants as answer
use Rattle.rpc_msg.specs.declared.message.RpcError.{RpcError}
use Rattle.rpc_msg.specs.declared.message.RpcError.TheVariants as error
use Rattle.rpc_msg.specs.declared.message.Message.{Message}
use Rattle.rpc_msg.specs.declared.message.Message.TheVariants as message
use Rattle.rpc_msg.proofs.Bodies.{right_read}

-- ---- a language of which no text begins another

module _ {A W : Type 0} (L : A → List ℕ → Type 0) (R : List ℕ → ℕ → W → Type 0)
    (free : (a c : A) (t u x y : List ℕ) → L a t → L c u → t ++ x ≡ u ++ y → (a ≡ c) × (t ≡ u)) where
  -- no text stands in front of what begins a longer one
  pub front_none : (s : List ℕ) → IsProperFront L s → (a : A) (t z : List ℕ) → L a t → s ≡ t ++ z → ⊥
  front_none s (c, b, x, l) a t z is cut =
      let line : (s ++ b ∷ x) ++ [] ≡ t ++ (z ++ b ∷ x) = append-nil (s ++ b ∷ x) ∙ (ap (λ h. h ++ b ∷ x) cut ∙ append_assoc t z (b ∷ x)) in
      let (ac, same) = free c a (s ++ b ∷ x) t [] (z ++ b ∷ x) l is line in
      let one : length s + suc (length x) ≡ length t = sym (length-append s (b ∷ x)) ∙ ap length same in
      let two : length s ≡ length t + length z = ap length cut ∙ length-append t z in
      omega arith

  -- nor in front of what has a faulty symbol
  pub fault_none : (s : List ℕ) (k : ℕ) (w : W) → IsFaultAt L R s k w → (a : A) (t z : List ℕ) → L a t → s ≡ t ++ z → ⊥
  fault_none s k w (p, b, v, cut, here, front, none, why) a t z is whole = over (cut_two p (b ∷ v) t z (sym cut ∙ whole))
    where
      over : ((y : List ℕ) × (t ≡ p ++ y) × (b ∷ v ≡ y ++ z)) ⊎ ((y : List ℕ) × (p ≡ t ++ y) × (z ≡ y ++ b ∷ v)) → ⊥
      over (inl ([], tp, rest)) = front_none p front a t [] is (sym (append-nil p) ∙ (sym tp ∙ sym (append-nil t)))
      over (inl (c ∷ y, tp, rest)) =
          let bc : b ≡ c = cc in
          none (a, y, subst (λ q. L a q) (tp ∙ (ap (λ q. p ++ q ∷ y) (sym bc) ∙ sym (snoc p b y))) is)
      over (inr (y, pt, rest)) = front_none p front a t y is pt

-- ---- bodies of a form

module _ (m : ℕ) (f : Form) (is : IsRead f) where
  pub spelled_free : (v w : Value) (t u x y : List ℕ) → Spells m f v t → Spells m f w u → t ++ x ≡ u ++ y → (v ≡ w) × (t ≡ u)
  spelled_free = prefix_free IsByte (Spells m f) (FaultWhy m f) (read m f) (right_read m f is)

  pub one_value : (v w : Value) (body : List ℕ) → Spells m f v body → Spells m f w body → v ≡ w
  one_value v w body l k = (spelled_free v w body body [] [] l k refl).0

  pub spelled_or_faulty : (v : Value) (body : List ℕ) (why : MsgFault) → Spells m f v body → IsMsgFault m f body why → ⊥
  spelled_or_faulty v body (fault.Bad at w) l none =
      fault_none (Spells m f) (FaultWhy m f) spelled_free body at w none v body [] l (sym (append-nil body))
  spelled_or_faulty v body (fault.Cut at) l none =
      front_none (Spells m f) (FaultWhy m f) spelled_free body none.1 v body [] l (sym (append-nil body))
  spelled_or_faulty v body (fault.Trailing at) l ((w, (le, k)), lt) =
      let (vw, same) = spelled_free w v (take at body) body (drop at body) [] k l (take-append-drop at body ∙ sym (append-nil body)) in
      let long : length body ≡ min at (length body) = sym (ap length same) ∙ length-take at body in
      omega arith

-- ---- values of headers and messages

abbrev header_of : List ℤ → Header
header_of versions = record { versions = versions }

pub header_is : (h k : Header) → header_value h ≡ header_value k → h ≡ k
header_is h k e = ap header_of (numbers h.versions k.versions (items_is (map val.Num h.versions) (map val.Num k.versions) e))
  where
    numbers : (ns ms : List ℤ) → map val.Num ns ≡ map val.Num ms → ns ≡ ms
    numbers [] [] e = refl
    numbers [] (m ∷ ms) e = absurd cc
    numbers (n ∷ ns) [] e = absurd cc
    numbers (n ∷ ns) (m ∷ ms) e =
        let first : val.Num n ≡ val.Num m = cc in
        let others : map val.Num ns ≡ map val.Num ms = cc in
        let one = num_is n m first in
        let rest = numbers ns ms others in
        cc

abbrev query_of : List ℕ → ℤ → ℤ → List ℕ → Query
query_of tag version id body = record { tag = tag; version = version; id = id; body = body }

query_is : (q p : Query) → query_value q ≡ query_value p → q ≡ p
query_is q p e =
    let all = parts_is (val.Text q.tag ∷ val.Num q.version ∷ val.Num q.id ∷ val.Text q.body ∷ []) (val.Text p.tag ∷ val.Num p.version ∷ val.Num p.id ∷ val.Text p.body ∷ []) e in
    let a : val.Text q.tag ≡ val.Text p.tag = cc in
    let b : val.Num q.version ≡ val.Num p.version = cc in
    let c : val.Num q.id ≡ val.Num p.id = cc in
    let d : val.Text q.body ≡ val.Text p.body = cc in
    ap (λ t. query_of t q.version q.id q.body) (text_is q.tag p.tag a)
    ∙ (ap (λ n. query_of p.tag n q.id q.body) (num_is q.version p.version b)
    ∙ (ap (λ n. query_of p.tag p.version n q.body) (num_is q.id p.id c) ∙ ap (λ t. query_of p.tag p.version p.id t) (text_is q.body p.body d)))

-- the place of an error's case, and its arguments
abbrev error_place : RpcError → ℕ
error_place (error.BinIo s) = 0
error_place error.ConnectionClosed = 1
error_place (error.WriteError s) = 2
error_place (error.Uncaught s) = 3
error_place (error.Unimplemented tag version) = 4
error_place (error.UnknownId id) = 5

abbrev error_arguments : RpcError → List Value
error_arguments (error.BinIo s) = val.Sexp s ∷ []
error_arguments error.ConnectionClosed = []
error_arguments (error.WriteError s) = val.Sexp s ∷ []
error_arguments (error.Uncaught s) = val.Sexp s ∷ []
error_arguments (error.Unimplemented tag version) = val.Text tag ∷ val.Case 0 (val.Num version ∷ []) ∷ []
error_arguments (error.UnknownId id) = val.Num id ∷ []

error_case : (a : RpcError) → error_value a ≡ val.Case (error_place a) (error_arguments a)
error_case (error.BinIo s) = refl
error_case error.ConnectionClosed = refl
error_case (error.WriteError s) = refl
error_case (error.Uncaught s) = refl
error_case (error.Unimplemented tag version) = refl
error_case (error.UnknownId id) = refl

error_is : (a b : RpcError) → error_value a ≡ error_value b → a ≡ b
error_is a b e =
    let cases : val.Case (error_place a) (error_arguments a) ≡ val.Case (error_place b) (error_arguments b) = sym (error_case a) ∙ (e ∙ error_case b) in
    by a b (case_place (error_place a) (error_place b) (error_arguments a) (error_arguments b) cases)
    (case_is (error_place a) (error_place b) (error_arguments a) (error_arguments b) cases)
  where
    by : (a b : RpcError) → error_place a ≡ error_place b → error_arguments a ≡ error_arguments b → a ≡ b
    by (error.BinIo s) (error.BinIo u) p e = let x : val.Sexp s ≡ val.Sexp u = cc in ap (λ z. error.BinIo z) (sexp_is s u x)
    by error.ConnectionClosed error.ConnectionClosed p e = refl
    by (error.WriteError s) (error.WriteError u) p e = let x : val.Sexp s ≡ val.Sexp u = cc in ap (λ z. error.WriteError z) (sexp_is s u x)
    by (error.Uncaught s) (error.Uncaught u) p e = let x : val.Sexp s ≡ val.Sexp u = cc in ap (λ z. error.Uncaught z) (sexp_is s u x)
    by (error.Unimplemented t n) (error.Unimplemented u m) p e =
        let x : val.Text t ≡ val.Text u = cc in
        let y : val.Case 0 (val.Num n ∷ []) ≡ val.Case 0 (val.Num m ∷ []) = cc in
        let ns = case_is 0 0 (val.Num n ∷ []) (val.Num m ∷ []) y in
        let z : val.Num n ≡ val.Num m = cc in
        let tag = text_is t u x in
        let version = num_is n m z in
        cc
    by (error.UnknownId n) (error.UnknownId m) p e = let x : val.Num n ≡ val.Num m = cc in ap (λ z. error.UnknownId z) (num_is n m x)
    by a b p e = absurd (omega (arith, p))

answer_is : (a b : Answer) → answer_value a ≡ answer_value b → a ≡ b
answer_is (answer.Ok s) (answer.Ok t) e =
    let args = case_is 0 0 (val.Text s ∷ []) (val.Text t ∷ []) e in
    let x : val.Text s ≡ val.Text t = cc in
    ap (λ z. answer.Ok z) (text_is s t x)
answer_is (answer.Ok s) (answer.Error b) e = absurd (let p = case_place 0 1 (val.Text s ∷ []) (error_value b ∷ []) e in omega (arith, p))
answer_is (answer.Error a) (answer.Ok t) e = absurd (let p = case_place 1 0 (error_value a ∷ []) (val.Text t ∷ []) e in omega (arith, p))
answer_is (answer.Error a) (answer.Error b) e =
    let args = case_is 1 1 (error_value a ∷ []) (error_value b ∷ []) e in
    let x : error_value a ≡ error_value b = cc in
    ap (λ z. answer.Error z) (error_is a b x)

abbrev response_of : ℤ → Answer → Response
response_of id result = record { id = id; result = result }

response_is : (r p : Response) → response_value r ≡ response_value p → r ≡ p
response_is r p e =
    let all = parts_is (val.Num r.id ∷ answer_value r.result ∷ []) (val.Num p.id ∷ answer_value p.result ∷ []) e in
    let a : val.Num r.id ≡ val.Num p.id = cc in
    let b : answer_value r.result ≡ answer_value p.result = cc in
    ap (λ n. response_of n r.result) (num_is r.id p.id a) ∙ ap (λ x. response_of p.id x) (answer_is r.result p.result b)

abbrev message_place : Message → ℕ
message_place message.Heartbeat = 0
message_place (message.Query q) = 1
message_place (message.Response r) = 2

abbrev message_arguments : Message → List Value
message_arguments message.Heartbeat = []
message_arguments (message.Query q) = query_value q ∷ []
message_arguments (message.Response r) = response_value r ∷ []

message_case : (m : Message) → message_value m ≡ val.Case (message_place m) (message_arguments m)
message_case message.Heartbeat = refl
message_case (message.Query q) = refl
message_case (message.Response r) = refl

pub message_is : (m n : Message) → message_value m ≡ message_value n → m ≡ n
message_is m n e =
    let cases : val.Case (message_place m) (message_arguments m) ≡ val.Case (message_place n) (message_arguments n) = sym (message_case m) ∙ (e ∙ message_case n) in
    by m n (case_place (message_place m) (message_place n) (message_arguments m) (message_arguments n) cases)
    (case_is (message_place m) (message_place n) (message_arguments m) (message_arguments n) cases)
  where
    by : (m n : Message) → message_place m ≡ message_place n → message_arguments m ≡ message_arguments n → m ≡ n
    by message.Heartbeat message.Heartbeat p e = refl
    by (message.Query q) (message.Query r) p e = let x : query_value q ≡ query_value r = cc in ap (λ z. message.Query z) (query_is q r x)
    by (message.Response q) (message.Response r) p e = let x : response_value q ≡ response_value r = cc in ap (λ z. message.Response z) (response_is q r x)
    by m n p e = absurd (omega (arith, p))
