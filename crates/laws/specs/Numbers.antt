-- The numbers of document 01 tell all of what the code returns: no two refusals have one number, and none has the number of
-- what is done.
use Rattle.std.specs.Prelude.{ℕ, ◌≡◌, cond, List, [], ◌∷◌, ◌==◌, Option, Some, None, Result, Ok, Err, refl}
use Rattle.std.proofs.Common.{sym, ap, ◌∙◌}
use Rattle.protocol.specs.Refusals.{number_of, answer_of, sent_of, started, stepped, ran}
use Rattle.protocol.specs.declared.Refusal.{Refusal}
use Rattle.protocol.specs.declared.Refusal.TheVariants.{OutOfRange, NoAction, NoSite, NoTransaction, IllFilled, WrongHome, WrongStatus, WrongMissing, NoMessage, LockClash, NoScan, WrongSites, WrongCount, NoHome, EqualPriorities, TooManyEvents, NoRoom}
use Rattle.protocol.specs.declared.Answered.{Answered}

abbrev refusals : List Refusal
refusals =
    OutOfRange
    ∷ NoAction
    ∷ NoSite
    ∷ NoTransaction
    ∷ IllFilled
    ∷ WrongHome
    ∷ WrongStatus
    ∷ WrongMissing
    ∷ NoMessage
    ∷ LockClash
    ∷ NoScan
    ∷ WrongSites
    ∷ WrongCount
    ∷ NoHome
    ∷ EqualPriorities
    ∷ TooManyEvents
    ∷ NoRoom
    ∷ []

-- the first refusal of the list that has this number
abbrev first_with : ℕ → List Refusal → Option Refusal
first_with n [] = None
first_with n (r ∷ l) = cond (number_of r == n) (Some r) (first_with n l)

number_of-known : (r : Refusal) → first_with (number_of r) refusals ≡ Some r
number_of-known OutOfRange = refl
number_of-known NoAction = refl
number_of-known NoSite = refl
number_of-known NoTransaction = refl
number_of-known IllFilled = refl
number_of-known WrongHome = refl
number_of-known WrongStatus = refl
number_of-known WrongMissing = refl
number_of-known NoMessage = refl
number_of-known LockClash = refl
number_of-known NoScan = refl
number_of-known WrongSites = refl
number_of-known WrongCount = refl
number_of-known NoHome = refl
number_of-known EqualPriorities = refl
number_of-known TooManyEvents = refl
number_of-known NoRoom = refl

pub number_of-same : (r q : Refusal) → number_of r ≡ number_of q → r ≡ q
number_of-same r q h =
    let e : Some r ≡ Some q =
    sym (number_of-known r) ∙ ap (λ (n : ℕ). first_with n refusals) h ∙ number_of-known q in
    cc

pub number_of-some : (r : Refusal) → number_of r ≡ 0 → ⊥
number_of-some r h =
    let e : Some r ≡ None = sym (number_of-known r) ∙ ap (λ (n : ℕ). first_with n refusals) h in cc

-- .. so what is returned is known from its numbers
outcome-same : {A : Type 0} → (o p : Result A Refusal) → ((x y : A) → o ≡ Ok x → p ≡ Ok y → x ≡ y) → answer_of o ≡ answer_of p → o ≡ p
outcome-same (Ok x) (Ok y) same h = ap Ok (same x y refl refl)
outcome-same (Ok x) (Err q) same h = absurd (number_of-some q (sym h))
outcome-same (Err r) (Ok y) same h = absurd (number_of-some r h)
outcome-same (Err r) (Err q) same h = ap Err (number_of-same r q h)

pub started-same : (x y : Answered (Unit {0})) → started x ≡ started y → x ≡ y
started-same x y h =
    let o : x.outcome ≡ y.outcome = outcome-same x.outcome y.outcome (λ u v p q. refl) (λ i. (h i).answer) in
    λ i. record { outcome = o i; state = (h i).state }

pub stepped-same : (x y : Answered ℕ) → stepped x ≡ stepped y → x ≡ y
stepped-same x y h =
    let n : sent_of x.outcome ≡ sent_of y.outcome = λ i. (h i).sent in
    let o : x.outcome ≡ y.outcome =
    outcome-same x.outcome y.outcome (λ u v p q. sym (ap sent_of p) ∙ n ∙ ap sent_of q) (λ i. (h i).answer) in
    λ i. record { outcome = o i; state = (h i).state }

pub ran-same : (x y : Answered ℕ) → ran x ≡ ran y → x ≡ y
ran-same x y h =
    stepped-same x y (λ i. record { answer = (h i).answer; sent = (h i).sent; state = (h i).state })
