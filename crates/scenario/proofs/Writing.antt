-- What is printed one after the other, and what a loop prints that prints something for each element of a list.
use Rattle.std.specs.Prelude.{slice_index_or}
use Rattle.std.specs.Fmt.{decimal}
use Rattle.std.proofs.Common.{rules, ◌≡◌, ℕ, zero, suc, ◌+◌, ◌-◌, ◌<◌, ◌≤◌, List, [], ◌∷◌, ◌++◌, length, take, drop, set, min, refl, sym, ap, ap₂, ◌∙◌, add-zero, arith, length-append, length-take-le, take_all}
use Rattle.std.proofs.lemmas.Fmt.{AppendsLastDigit, decimal_from_appends, length-decimal-le}
use Rattle.std.proofs.lemmas.List.Edits.{sets, sets-eq}
use borrow.Rule.Slice.PartMut.{put_mid}
use Rattle.std.proofs.lemmas.List.{at_drop_more, drop_all, take_min}
use Rattle.std.proofs.lemmas.Slice.{put_mid-paste}
use Rattle.std.proofs.Math.Seq.{take-nil, length-sets}
use Rattle.protocol.specs.State.{row_at, place_at}
use Rattle.protocol.specs.declared.Row.{Row}
use Rattle.protocol.specs.declared.Place.{Place}
use Rattle.protocol.specs.declared.State.{State}
use Rattle.text.specs.Decimal.{digits, digits_by}
use Rattle.text.specs.Written.{bytes}
use Rattle.scenario.specs.declared.printer.Printer.{Printer}
use Rattle.scenario.specs.Put.{printed, site_of}
use Rattle.scenario.specs.Report.{line_of, others_of, answer_lines, site_lines}
use Rattle.scenario.specs.Room.{sites_first, sites_none}

-- ---- one after the other

-- so many elements of two lists: those of the first, and then as many of the second as are left
take_both : (n : ℕ) (a b : List ℕ) → take n a ++ take (n - length (take n a)) b ≡ take n (a ++ b)
take_both zero a b = refl
take_both (suc n) [] b = let e : suc n - 0 ≡ suc n = omega arith in ap (λ (k : ℕ). take k b) e
take_both (suc n) (x ∷ a) b =
    let e : suc n - suc (length (take n a)) ≡ n - length (take n a) = omega arith in
    rw e (ap (λ (l : List ℕ). x ∷ l) (take_both n a b))

-- storing a and b is storing a, and then b
sets-append : (a b l : List ℕ) (i : ℕ) → sets l i (a ++ b) ≡ sets (sets l i a) (i + length a) b
sets-append [] b l i = ap (λ (k : ℕ). sets l k b) (sym (add-zero i))
sets-append (x ∷ a) b l i =
    let e : suc i + length a ≡ i + suc (length a) = omega arith in
    sets-append a b (set l i x) (suc i) ∙ ap (λ (k : ℕ). sets (sets (set l i x) (suc i) a) k b) e

-- a printer with other bytes and another place
abbrev pub with_bytes : Printer → List ℕ → ℕ → Printer
with_bytes p o i = record { out = record { ref_ptr = p.out.ref_ptr; ghost_name = p.out.ghost_name; now = o }; at = i }

-- a printed, and b after it
pub printed-both : (p : Printer) (a b : List ℕ) → printed (printed p a) b ≡ printed p (a ++ b)
unfolding printed
printed-both p a b =
    let l = p.out.now in
    let m = length l - p.at in
    let d = take m a in
    let k : length (sets l p.at d) - (p.at + length d) ≡ m - length d = omega (arith, length-sets l p.at d) in
    let both = take_both m a b in
    ap₂ (with_bytes p)
    (ap (λ (n : ℕ). sets (sets l p.at d) (p.at + length d) (take n b)) k ∙ sym (sets-append d (take (m - length d) b) l p.at)
    ∙ ap (sets l p.at) both)
    (ap (λ (n : ℕ). p.at + length d + length (take n b)) k
    ∙ omega (arith, ap length both, length-append d (take (m - length d) b)))

-- nothing printed
pub printed-none : (p : Printer) → printed p [] ≡ p
unfolding printed
printed-none p = rw (take-nil {A = ℕ} (length p.out.now - p.at), add-zero p.at) refl

-- there is no place left
pub printed-full : (p : Printer) (d : List ℕ) → length p.out.now ≤ p.at → p ≡ printed p d
unfolding printed
printed-full p d h = let z : length p.out.now - p.at ≡ 0 = omega arith in rw (z, add-zero p.at) refl

-- d has the room
pub printed-all : (p : Printer) (d : List ℕ) → p.at + length d ≤ length p.out.now
    → printed p d ≡ with_bytes p (sets p.out.now p.at d) (p.at + length d)
unfolding printed
printed-all p d h = rw (take_all (length p.out.now - p.at) d (omega arith)) refl

-- the first n bytes of d are stored, and no more have a place
pub printed-part : (p : Printer) (d e : List ℕ) (n k : ℕ) → e ≡ take n d → n ≡ min (length d) (length p.out.now - p.at)
    → n ≡ k
    → p.at ≤ length p.out.now
    → with_bytes p (put_mid p.at k p.out.now e) (p.at + n) ≡ printed p d
unfolding printed
printed-part p d e n k f g i h =
    let l = p.out.now in
    let v = take n d in
    let all : v ≡ take (length l - p.at) d =
    ap (λ (x : ℕ). take x d) (g ∙ omega arith) ∙ take_min (length l - p.at) d in
    let size : length v ≡ n = length-take-le n d (omega arith) in
    let paste_v : put_mid p.at k l e ≡ sets l p.at v =
    put_mid-paste p.at k l e v n f i (sym size)
    ∙ ap₂ (λ (x : List ℕ) (y : ℕ). take p.at l ++ x ++ drop (p.at + y) l) (take_all n v (omega arith)) (sym size)
    ∙ sym (sets-eq v l p.at (omega arith)) in
    rw (← all, size) (ap (λ (o : List ℕ). with_bytes p o (p.at + n)) paste_v)

-- all bytes of d are copied to their place
pub printed-copied : (p : Printer) (d e : List ℕ) (k : ℕ) → e ≡ d → length d ≡ k → p.at + length d ≤ length p.out.now
    → with_bytes p (put_mid p.at k p.out.now e) (p.at + length d) ≡ printed p d
printed-copied p d e k f g h =
    printed-part p d e (length d) k (f ∙ sym (take_all (length d) d (omega arith))) (omega arith) g (omega arith)

-- ---- a list, element by element

-- f prints a list, g each of its elements
pub record Rows (f : List ℕ → List ℕ) (g : ℕ → List ℕ) : Type 0 where
  pub empty : f [] ≡ []
  pub more : (x : ℕ) (l : List ℕ) → f (x ∷ l) ≡ g x ++ f l

-- a turn of the loop prints the next element x, and what is left after it
pub rows_next : {f : List ℕ → List ℕ} {g : ℕ → List ℕ} → Rows f g → (p q r : Printer) (s : List ℕ) (i x : ℕ)
    → x ≡ slice_index_or s i 0 → q ≡ printed p (g x) → printed p (f (drop i s)) ≡ r → i < length s
    → printed q (f (drop (i + 1) s)) ≡ r
rows_next {f} {g} w p q r s i x d e k h =
    rw (e, d)
    (printed-both p (g (slice_index_or s i 0)) (f (drop (i + 1) s))
    ∙ ap (printed p) (sym (at_drop_more f s i 0 h ∙ w.more (slice_index_or s i 0) (drop (i + 1) s)))
    ∙ k)

-- after the last nothing is left
pub rows_end : {f : List ℕ → List ℕ} {g : ℕ → List ℕ} → Rows f g → (p r : Printer) (s : List ℕ) (i : ℕ)
    → printed p (f (drop i s)) ≡ r → length s ≤ i
    → p ≡ r
rows_end {f} {g} w p r s i k h = sym (ap (printed p) (ap f (drop_all i s h) ∙ w.empty) ∙ printed-none p) ∙ k

-- bytes, one by one
pub byte_rows : Rows (λ l. l) (λ x. x ∷ [])
byte_rows = record { empty = refl; more = λ x l. refl }

-- a line for each answer
pub answer_rows : Rows answer_lines (line_of (bytes "answer="))
unfolding answer_lines
answer_rows = record { empty = refl; more = λ x l. refl }

-- decimals with commas before them
pub other_rows : Rows others_of (λ x. 44 ∷ digits x)
unfolding others_of
other_rows = record { empty = refl; more = λ x l. refl }

-- ---- the sites

-- a turn of the loop prints site k, and what is left after it
pub sites_turn : (s : State) (p q r : Printer) (n k : ℕ) (row : Row) (place : Place) → row ≡ row_at s k
    → place ≡ place_at s k
    → q ≡ printed p (site_of s.count row place)
    → printed p (site_lines (n - k) k s) ≡ r
    → k < n
    → printed q (site_lines (n - suc k) (suc k) s) ≡ r
sites_turn s p q r n k row place a b e i h =
    let m : n - k ≡ suc (n - suc k) = omega arith in
    rw (e, a, b)
    (printed-both p (site_of s.count (row_at s k) (place_at s k)) (site_lines (n - suc k) (suc k) s)
    ∙ ap (printed p) (sym (ap (λ (x : ℕ). site_lines x k s) m ∙ sites_first (n - suc k) k s))
    ∙ i)

-- after the last no site is left
pub sites_end : (s : State) (p r : Printer) (n k : ℕ) → printed p (site_lines (n - k) k s) ≡ r → k ≡ n → p ≡ r
sites_end s p r n k i e =
    let z : n - k ≡ 0 = omega arith in
    sym (ap (printed p) (ap (λ (x : ℕ). site_lines x k s) z ∙ sites_none k s) ∙ printed-none p) ∙ i

-- ---- a decimal

-- the decimal of a number below ten is its digit
digit_by : (k n : ℕ) → n < 10 → (48 + n) ∷ [] ≡ digits_by (suc k) n
unfolding digits_by
digit_by k n h = search (rules, h)

pub one_digit : (n : ℕ) → n < 10 → (48 + n) ∷ [] ≡ digits n
unfolding digits
one_digit n h = digit_by 9 n h

-- what the library writes for a number of 32 bits is its decimal
pub decimal_digits : (n : ℕ) → n < 4294967296 → decimal n ≡ digits n
unfolding digits digits_by
decimal_digits n h = sym (decimal_from_appends digits_by appends 10 n (omega arith) (length-decimal-le 10 n (omega arith) (omega arith) (omega arith)))
  where
    appends : AppendsLastDigit digits_by
    appends = search rules
