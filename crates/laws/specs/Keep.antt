-- Those of a list that pass a test, in their order.
use Rattle.std.specs.Prelude.{ℕ, ◌≡◌, refl, Bool, true, false}
use Rattle.std.proofs.Common.{sym, ◌∙◌, ap}
use Rattle.std.proofs.lemmas.Bool.{false≢true}
use mathlib.Core.List.{List, [], ◌∷◌, ◌++◌, append-nil, Memᴰ}

abbrev pub put : Bool → ℕ → List ℕ → List ℕ
put true x l = x ∷ l
put false x l = l

abbrev pub keep : (ℕ → Bool) → List ℕ → List ℕ
keep p [] = []
keep p (x ∷ l) = put (p x) x (keep p l)

put-append : (b : Bool) (x : ℕ) (l m : List ℕ) → put b x l ++ m ≡ put b x (l ++ m)
put-append true x l m = refl
put-append false x l m = refl

keep_append : (p : ℕ → Bool) (l m : List ℕ) → keep p (l ++ m) ≡ keep p l ++ keep p m
keep_append p [] m = refl
keep_append p (x ∷ l) m = ap (put (p x) x) (keep_append p l m) ∙ sym (put-append (p x) x (keep p l) (keep p m))

pub keep_yes : (p : ℕ → Bool) (l : List ℕ) (t : ℕ) → p t ≡ true → keep p (l ++ (t ∷ [])) ≡ keep p l ++ (t ∷ [])
keep_yes p l t e = keep_append p l (t ∷ []) ∙ rw e

pub keep_no : (p : ℕ → Bool) (l : List ℕ) (t : ℕ) → p t ≡ false → keep p (l ++ (t ∷ [])) ≡ keep p l
keep_no p l t e = keep_append p l (t ∷ []) ∙ rw e (append-nil (keep p l))

put_in : {t : ℕ} (x : ℕ) (b : Bool) (l : List ℕ) → Memᴰ t l → Memᴰ t (put b x l)
put_in x true l h = Memᴰ.tail h
put_in x false l h = h

put_here : {t x : ℕ} (b : Bool) (l : List ℕ) → b ≡ true → t ≡ x → Memᴰ t (put b x l)
put_here true l e q = Memᴰ.head q
put_here false l e q = absurd (false≢true e)

pub in_keep : (p : ℕ → Bool) {t : ℕ} {l : List ℕ} → Memᴰ t l → p t ≡ true → Memᴰ t (keep p l)
in_keep p (Memᴰ.head {x = x} {xs = xs} e) h = put_here (p x) (keep p xs) (rw e at h) e
in_keep p (Memᴰ.tail {x = x} {xs = xs} m) h = put_in x (p x) (keep p xs) (in_keep p m h)

in_put : (p : ℕ → Bool) (t x : ℕ) (l m : List ℕ) (b : Bool) → p x ≡ b → (Memᴰ t m → Memᴰ t l × (p t ≡ true))
    → Memᴰ t (put b x m) → Memᴰ t (x ∷ l) × (p t ≡ true)
in_put p t x l m true e f (Memᴰ.head q) = (Memᴰ.head q, rw q e)
in_put p t x l m true e f (Memᴰ.tail h) = (Memᴰ.tail (f h).0, (f h).1)
in_put p t x l m false e f h = (Memᴰ.tail (f h).0, (f h).1)

pub keep_in : (p : ℕ → Bool) {t : ℕ} (l : List ℕ) → Memᴰ t (keep p l) → Memᴰ t l × (p t ≡ true)
keep_in p {t = t} [] h = elim h [ ]
keep_in p {t} (x ∷ l) h = in_put p t x l (keep p l) (p x) refl (λ m. keep_in p l m) h

pub keep_ext : (p q : ℕ → Bool) (l : List ℕ) → ((t : ℕ) → Memᴰ t l → p t ≡ q t) → keep p l ≡ keep q l
keep_ext p q [] h = refl
keep_ext p q (x ∷ l) h =
    rw (h x (Memᴰ.head refl)) (ap (put (q x) x) (keep_ext p q l (λ t m. h t (Memᴰ.tail m))))
