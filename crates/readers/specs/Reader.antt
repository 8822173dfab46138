-- The theory of readers. A language says which symbols are a text of which value. A reader takes the front of some symbols.
-- Symbols are bytes, or tokens.
use Rattle.std.specs.Prelude.{Option, Some, None, ◌≡◌, ℕ, zero, suc, ◌+◌, ◌≤◌, ◌<◌, Bool, true, false, if◌then◌else◌, nat_eq, List, [], ◌∷◌, ◌++◌, length, take, ◌⊎◌}

-- ---- what a reader gives

-- whole a u: the value of a text in front, and what stands after the text.
-- more: the symbols end before a text does. bad n w: the first faulty symbol begins the last n symbols; w is the reason.
pub data Outcome (S W A : Type 0) : Type 0 where
  whole : A → List S → Outcome S W A
  more : Outcome S W A
  bad : ℕ → W → Outcome S W A

-- reading goes on after a value
abbrev pub after : {S W A B : Type 0} → Outcome S W A → (A → List S → Outcome S W B) → Outcome S W B
after (whole a u) f = f a u
after more f = more
after (bad n w) f = bad n w

-- a function of the value
abbrev pub mapped : {S W A B : Type 0} → (A → B) → Outcome S W A → Outcome S W B
mapped g (whole a u) = whole (g a) u
mapped g more = more
mapped g (bad n w) = bad n w

-- ---- when a reader is right

-- each symbol is of a class
abbrev pub Each : {S : Type 0} → (S → Type 0) → List S → Type 0
Each V [] = Unit {0}
Each V (b ∷ s) = V b × Each V s

-- nothing follows, or a symbol of a class
abbrev pub Follows : {S : Type 0} → (S → Type 0) → List S → Type 0
Follows E [] = Unit {0}
Follows E (b ∷ s) = E b

abbrev pub Any : {S : Type 0} → S → Type 0
Any b = Unit {0}

abbrev pub Never : {S : Type 0} → S → Type 0
Never b = ⊥

abbrev pub Is : {S : Type 0} → (S → Bool) → S → Type 0
Is C b = C b ≡ true

abbrev pub IsNot : {S : Type 0} → (S → Bool) → S → Type 0
IsNot C b = C b ≡ false

-- a symbol that is a byte
abbrev pub IsByte : ℕ → Type 0
IsByte b = b < 256

-- some text begins with these symbols
abbrev pub Front : {S A : Type 0} → (A → List S → Type 0) → List S → Type 0
Front {S = S} {A = A} L p = (a : A) × (x : List S) × L a (p ++ x)

-- the first faulty symbol of s is the b after p, and begins the last n symbols: p is a front, p and b are none
pub record FaultIn {S : Type 0} (F : List S → Type 0) (s p : List S) (b : S) (v : List S) (n : ℕ) : Type 0 where
  pub place : s ≡ p ++ b ∷ v
  pub left : n ≡ length (b ∷ v)
  pub front : F p
  pub no_front : F (p ++ b ∷ []) → ⊥

abbrev pub FaultAt : {S A : Type 0} → (A → List S → Type 0) → List S → List S → S → List S → ℕ → Type 0
FaultAt L s p b v n = FaultIn (Front L) s p b v n

-- A reader r is right about a language L, its fronts F and its reasons R (b after p is at fault for w). V: the symbols that may
-- come at all. E: the symbols that may follow a whole text, since they do not go on it; Any where no text begins another.
pub record RightIn {S W A : Type 0} (V E : S → Type 0) (F : List S → Type 0) (L : A → List S → Type 0) (R : List S → S → W → Type 0) (r : List S → Outcome S W A) : Type 0 where
  pub sound : (s : List S) (a : A) (u : List S) → Each V s → r s ≡ whole a u → (t : List S) × (s ≡ t ++ u) × L a t × Follows E u
  pub complete : (a : A) (t u : List S) → L a t → Follows E u → r (t ++ u) ≡ whole a u
  pub goes_on : (s : List S) → Each V s → r s ≡ more → F s
  pub faults : (s : List S) (n : ℕ) (w : W) → Each V s → r s ≡ bad n w
      → (p : List S) × (b : S) × (v : List S) × FaultIn F s p b v n × R p b w

-- the same where a front is what begins a text
abbrev pub Right : {S W A : Type 0} → (S → Type 0) → (S → Type 0) → (A → List S → Type 0) → (List S → S → W → Type 0) → (List S → Outcome S W A) → Type 0
Right V E L R r = RightIn V E (Front L) L R r

-- F may be the fronts of a language: each text is one, and none goes on a text with what may follow it
pub record AreFronts {S A : Type 0} (E : S → Type 0) (F : List S → Type 0) (L : A → List S → Type 0) : Type 0 where
  pub reaches : (a : A) (t : List S) → L a t → F t
  pub ends : (a : A) (t : List S) (b : S) (x : List S) → L a t → E b → F (t ++ b ∷ x) → ⊥

-- both, as larger readers are put together
pub record ReadsIn {S W A : Type 0} (V E : S → Type 0) (F : List S → Type 0) (L : A → List S → Type 0) (R : List S → S → W → Type 0) (r : List S → Outcome S W A) : Type 0 where
  pub right : RightIn V E F L R r
  pub fronts : AreFronts E F L

-- ---- one reason for each place, and longer lists

-- each fault has one reason, and none comes after a whole text
pub record Tells {S W A : Type 0} (L : A → List S → Type 0) (R : List S → S → W → Type 0) : Type 0 where
  pub one : (p : List S) (b : S) (v w : W) → R p b v → R p b w → v ≡ w
  pub silent : (a : A) (t q : List S) (b : S) (w : W) → L a t → R (t ++ q) b w → ⊥

-- what an outcome says of the same symbols and x after them
abbrev pub Goes : {S W A : Type 0} → List S → Outcome S W A → Outcome S W A → Type 0
Goes x (whole a u) o = o ≡ whole a (u ++ x)
Goes x more o = Unit {0}
Goes x (bad n w) o = o ≡ bad (n + length x) w

-- what was read stays read, and what was at fault stays at fault, whatever follows
abbrev pub Grows : {S W A : Type 0} → (List S → Outcome S W A) → Type 0
Grows {S = S} r = (s x : List S) → Goes x (r s) (r (s ++ x))

-- no reason is told
abbrev pub Plain : {S W : Type 0} → List S → S → W → Type 0
Plain p b w = Unit {0}

-- no symbol is ever at fault
abbrev pub NoWhy : {S W : Type 0} → List S → S → W → Type 0
NoWhy p b w = ⊥

-- ---- what an answer says of all symbols, by places from the first on

-- a text of the value a stands in front, k symbols long
abbrev pub Stands : {S A : Type 0} → (A → List S → Type 0) → List S → A → ℕ → Type 0
Stands L s a k = (k ≤ length s) × L a (take k s)

-- the symbols begin a longer text
abbrev pub IsProperFront : {S A : Type 0} → (A → List S → Type 0) → List S → Type 0
IsProperFront {S = S} {A = A} L p = (a : A) × (b : S) × (x : List S) × L a (p ++ b ∷ x)

-- the first faulty symbol is at the place k, for the reason w
abbrev pub IsFaultAt : {S W A : Type 0} → (A → List S → Type 0) → (List S → S → W → Type 0) → List S → ℕ → W → Type 0
IsFaultAt {S = S} L R s k w = (p : List S) × (b : S) × (v : List S) × (s ≡ p ++ b ∷ v) × (k ≡ length p)
    × IsProperFront L p × (Front L (p ++ b ∷ []) → ⊥) × R p b w

-- ---- whole texts

-- n symbols from the end: there the first fault of s is; or s is all of a front, and no text
abbrev pub IsRefused : {S A : Type 0} → (A → List S → Type 0) → List S → ℕ → Type 0
IsRefused {S = S} {A = A} L s n = ((p : List S) × (b : S) × (v : List S) × FaultAt L s p b v n)
    ⊎ ((n ≡ 0) × Front L s × ((a : A) → L a s → ⊥))

-- the value of a whole text, or the number of symbols from the one on where it is refused
pub data Read (A : Type 0) : Type 0 where
  good : A → Read A
  refused : ℕ → Read A

abbrev pub to_end : {S W A : Type 0} → Outcome S W A → Read A
to_end (whole a []) = good a
to_end (whole a (b ∷ u)) = refused (length (b ∷ u))
to_end more = refused 0
to_end (bad n w) = refused n

-- ---- sequence, map, nothing

-- two languages, one after the other; the second may depend on the value of the first
abbrev pub Then : {S A B : Type 0} → (A → List S → Type 0) → (A → B → List S → Type 0) → B → List S → Type 0
Then {S = S} {A = A} L M b s = (a : A) × (t : List S) × (u : List S) × (s ≡ t ++ u) × L a t × M a b u

abbrev pub ThenWhy : {S W A : Type 0} → (A → List S → Type 0) → (List S → S → W → Type 0) → (A → List S → S → W → Type 0) → List S → S → W → Type 0
ThenWhy {S = S} {A = A} L R Q p b w = R p b w ⊎ ((a : A) × (t : List S) × (q : List S) × (p ≡ t ++ q) × L a t × Q a q b w)

-- fronts of the first, or a text of it and then a front of the second
abbrev pub ThenFront : {S A : Type 0} → (A → List S → Type 0) → (List S → Type 0) → (A → List S → Type 0) → List S → Type 0
ThenFront {S = S} {A = A} L F G p = F p ⊎ ((a : A) × (t : List S) × (q : List S) × (p ≡ t ++ q) × L a t × G a q)

-- the values are what a function gives
abbrev pub Mapped : {S A B : Type 0} → (A → B) → (A → List S → Type 0) → B → List S → Type 0
Mapped {A = A} g L b s = (a : A) × (b ≡ g a) × L a s

-- one value, of no symbols
abbrev pub Done : {S A : Type 0} → A → A → List S → Type 0
Done x a s = (a ≡ x) × (s ≡ [])

-- ---- the first symbol

-- a first symbol, and what it lets follow
abbrev pub First : {S A : Type 0} → (S → A → List S → Type 0) → A → List S → Type 0
First {S = S} L a s = (b : S) × (t : List S) × (s ≡ b ∷ t) × L b a t

abbrev pub first : {S W A : Type 0} → (S → List S → Outcome S W A) → List S → Outcome S W A
first f [] = more
first f (b ∷ s) = f b s

-- one symbol that has a value
abbrev pub One : {S A : Type 0} → (S → Option A) → A → List S → Type 0
One {S = S} h a s = (b : S) × (s ≡ b ∷ []) × (h b ≡ Some a)

-- a symbol with no value is at fault
abbrev pub OneWhy : {S W A : Type 0} → (S → Option A) → W → List S → S → W → Type 0
OneWhy h w p b x = (p ≡ []) × (h b ≡ None) × (x ≡ w)

abbrev pub leaf : {S W A : Type 0} → Option A → ℕ → W → List S → Outcome S W A
leaf (Some a) n w s = whole a s
leaf None n w s = bad n w

abbrev pub one : {S W A : Type 0} → (S → Option A) → W → List S → Outcome S W A
one h w s = first (λ b t. leaf (h b) (length (b ∷ t)) w t) s

-- one of two ways, by a test of the first symbol
abbrev pub Branch : {S A : Type 0} → (A → List S → Type 0) → (A → List S → Type 0) → A → List S → Type 0
Branch L M a s = L a s ⊎ M a s

abbrev pub branch : {S W A : Type 0} → (S → Bool) → (List S → Outcome S W A) → (List S → Outcome S W A) → List S → Outcome S W A
branch C r q [] = more
branch C r q (b ∷ s) = if C b then r (b ∷ s) else q (b ∷ s)

-- each text begins with a symbol of a class
abbrev pub Begins : {S A : Type 0} → (S → Type 0) → (A → List S → Type 0) → Type 0
Begins {S = S} {A = A} C L = (a : A) (s : List S) → L a s → (b : S) × (t : List S) × (s ≡ b ∷ t) × C b

-- ---- counts and runs

-- n texts, one after the other
abbrev pub Count : {S A : Type 0} → (A → List S → Type 0) → ℕ → List A → List S → Type 0
Count L zero vs s = Done [] vs s
Count L (suc n) vs s = Then L (λ v. Mapped (λ us. v ∷ us) (Count L n)) vs s

abbrev pub CountWhy : {S W A : Type 0} → (A → List S → Type 0) → (List S → S → W → Type 0) → ℕ → List S → S → W → Type 0
CountWhy L R zero p b w = ⊥
CountWhy L R (suc n) p b w = ThenWhy L R (λ v. CountWhy L R n) p b w

abbrev pub CountFront : {S A : Type 0} → (A → List S → Type 0) → (List S → Type 0) → ℕ → List S → Type 0
CountFront L F zero p = p ≡ []
CountFront L F (suc n) p = ThenFront L F (λ v. CountFront L F n) p

abbrev pub count : {S W A : Type 0} → (List S → Outcome S W A) → ℕ → List S → Outcome S W (List A)
count r zero s = whole [] s
count r (suc n) s = after (r s) (λ v u. mapped (λ us. v ∷ us) (count r n u))

-- n symbols of a class
abbrev pub Symbols : {S : Type 0} → (S → Type 0) → ℕ → List S → List S → Type 0
Symbols V n a s = (a ≡ s) × (length s ≡ n) × Each V s

abbrev pub symbols : {S W : Type 0} → ℕ → List S → Outcome S W (List S)
symbols zero s = whole [] s
symbols (suc n) [] = more
symbols (suc n) (b ∷ s) = mapped (λ t. b ∷ t) (symbols n s)

-- at most n symbols of a class; one more may not follow
abbrev pub Run : {S : Type 0} → (S → Bool) → ℕ → List S → List S → Type 0
Run C n t s = (t ≡ s) × (length s ≤ n) × Each (Is C) s

abbrev pub RunWhy : {S W : Type 0} → (S → Bool) → W → ℕ → List S → S → W → Type 0
RunWhy C w n p b x = (x ≡ w) × (length p ≡ n) × (C b ≡ true)

-- the longest run; one symbol more than n is at fault
abbrev pub run : {S W : Type 0} → (S → Bool) → W → ℕ → List S → Outcome S W (List S)
run C w n [] = whole [] []
run C w zero (b ∷ s) = if C b then bad (length (b ∷ s)) w else whole [] (b ∷ s)
run C w (suc n) (b ∷ s) = if C b then mapped (λ t. b ∷ t) (run C w n s) else whole [] (b ∷ s)

-- a word: one symbol of a class, and then at most n more
abbrev pub Word : {S : Type 0} → (S → Bool) → ℕ → List S → List S → Type 0
Word C n t s = (t ≡ s) × (1 ≤ length s) × (length s ≤ suc n) × Each (Is C) s

abbrev pub kept : {S : Type 0} → (S → Bool) → S → Option S
kept C b = if C b then Some b else None

abbrev pub word : {S W : Type 0} → (S → Bool) → W → ℕ → List S → Outcome S W (List S)
word C w n s = after (one (kept C) w s) (λ b u. mapped (λ t. b ∷ t) (run C w n u))

-- ---- lists with separators

-- what stands after a value of a list: the closing symbol; or a separator, a value, and the like again
abbrev pub Rest : {S A : Type 0} → (S → Bool) → (S → Bool) → (A → List S → Type 0) → List A → List S → Type 0
Rest {S = S} sep close L [] s = (c : S) × (close c ≡ true) × (s ≡ c ∷ [])
Rest {S = S} sep close L (v ∷ vs) s = (c : S) × (t : List S) × (u : List S) × (sep c ≡ true) × (s ≡ c ∷ (t ++ u)) × L v t × Rest sep close L vs u

abbrev pub rest_at : {S W A : Type 0} → (S → Bool) → (S → Bool) → W → (List S → Outcome S W A) → (List S → Outcome S W (List A)) → S → List S → Outcome S W (List A)
rest_at sep close w r next c s = if close c then whole [] s else if sep c then after (r s) (λ v u. mapped (λ vs. v ∷ vs) (next u)) else bad (length (c ∷ s)) w

-- the reading of it, for at most k more values
unfoldable pub rests : {S W A : Type 0} → (S → Bool) → (S → Bool) → W → (List S → Outcome S W A) → ℕ → List S → Outcome S W (List A)
rests sep close w r zero s = first (λ c t. if close c then whole [] t else bad (length (c ∷ t)) w) s
rests sep close w r (suc k) s = first (rest_at sep close w r (rests sep close w r k)) s

-- more values, each after a separator; what ends them is not used up
abbrev pub Others : {S A : Type 0} → (S → Bool) → (A → List S → Type 0) → List A → List S → Type 0
Others sep L [] s = s ≡ []
Others {S = S} sep L (v ∷ vs) s = (c : S) × (t : List S) × (u : List S) × (sep c ≡ true) × (s ≡ c ∷ (t ++ u)) × L v t × Others sep L vs u

abbrev pub others_at : {S W A : Type 0} → (S → Bool) → (S → Bool) → W → (List S → Outcome S W A) → (List S → Outcome S W (List A)) → S → List S → Outcome S W (List A)
others_at sep ends w r next c s = if sep c then after (r s) (λ v u. mapped (λ vs. v ∷ vs) (next u)) else if ends c then whole [] (c ∷ s) else bad (length (c ∷ s)) w

-- the reading of it, for at most k more values; only a symbol of `ends` may follow
unfoldable pub others : {S W A : Type 0} → (S → Bool) → (S → Bool) → W → (List S → Outcome S W A) → ℕ → List S → Outcome S W (List A)
others sep ends w r k [] = whole [] []
others sep ends w r zero (c ∷ s) = if ends c then whole [] (c ∷ s) else bad (length (c ∷ s)) w
others sep ends w r (suc k) (c ∷ s) = others_at sep ends w r (others sep ends w r k) c s

-- ---- ends

-- a value, where nothing follows or a symbol of `ends`
abbrev pub stop : {S W A : Type 0} → (S → Bool) → W → A → List S → Outcome S W A
stop ends w a [] = whole a []
stop ends w a (c ∷ s) = if ends c then whole a (c ∷ s) else bad (length (c ∷ s)) w

-- at most one value, after a separator
abbrev pub Maybe : {S A : Type 0} → (S → Bool) → (A → List S → Type 0) → Option A → List S → Type 0
Maybe sep L None s = s ≡ []
Maybe {S = S} sep L (Some v) s = (c : S) × (t : List S) × (sep c ≡ true) × (s ≡ c ∷ t) × L v t

abbrev pub maybe : {S W A : Type 0} → (S → Bool) → (S → Bool) → W → (List S → Outcome S W A) → List S → Outcome S W (Option A)
maybe sep ends w r [] = whole None []
maybe sep ends w r (c ∷ s) = if sep c then after (r s) (λ v. stop ends w (Some v)) else stop ends w None (c ∷ s)

-- a value, where nothing follows
abbrev pub at_end : {S W A : Type 0} → W → A → List S → Outcome S W A
at_end w a [] = whole a []
at_end w a (b ∷ s) = bad (length (b ∷ s)) w

-- the texts of a language, up to the end of all symbols
abbrev pub Ended : {S A : Type 0} → (A → List S → Type 0) → A → List S → Type 0
Ended L a s = Then L (λ x. Done x) a s

abbrev pub ended : {S W A : Type 0} → W → (List S → Outcome S W A) → List S → Outcome S W A
ended w r s = after (r s) (at_end w)

-- ---- texts of numbers

-- these symbols and no others
abbrev pub Fixed : List ℕ → Unit {0} → List ℕ → Type 0
Fixed cs u s = s ≡ cs

abbrev pub this : ℕ → ℕ → Option (Unit {0})
this c b = if nat_eq b c then Some tt else None

abbrev pub fixed : {W : Type 0} → W → List ℕ → List ℕ → Outcome ℕ W (Unit {0})
fixed w [] s = whole tt s
fixed w (c ∷ cs) s = after (one (this c) w s) (λ u t. fixed w cs t)
