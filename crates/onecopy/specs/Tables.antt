-- Tables by two numbers, as a site and a transaction: one place stored anew, and what is read of the table then.
use Rattle.std.specs.Prelude.{ℕ, suc, ◌≡◌, Bool, true, false, cond, ◌&&◌, ◌==◌}
use Rattle.onecopy.specs.Words.{Cmp, cmp, same, other}

module _ {A : Type 0} where
  -- v is stored for transaction t at site i
  abbrev pub upd : (ℕ → ℕ → A) → ℕ → ℕ → A → ℕ → ℕ → A
  upd f i t v j u = cond (u == t && j == i) v (f j u)

  -- t gets other contents
  abbrev pub anew : (ℕ → ℕ → A) → ℕ → (ℕ → A) → ℕ → ℕ → A
  anew f t g u o = cond (u == t) (g o) (f u o)

-- a mark wherever g says so, and one more there
abbrev pub mark : (ℕ → ℕ → Bool) → (ℕ → ℕ → Bool) → ℕ → ℕ → Bool
mark f g j u = cond (g j u) true (f j u)

abbrev pub more : (ℕ → ℕ → ℕ) → (ℕ → ℕ → Bool) → ℕ → ℕ → ℕ
more f g j u = cond (g j u) (suc (f j u)) (f j u)

-- what is read after a store: the new value at its place, the old elsewhere
pub data Read {A : Type 0} (P : A → Type 0) (f : ℕ → ℕ → A) (i t : ℕ) (v : A) (j u : ℕ) : Type 0 where
  new : u ≡ t → j ≡ i → P v → Read P f i t v j u
  old : (u ≡ t → j ≡ i → ⊥) → P (f j u) → Read P f i t v j u

pub upd_read : {A : Type 0} (P : A → Type 0) (f : ℕ → ℕ → A) (i t : ℕ) (v : A) (j u : ℕ) → P (upd f i t v j u)
    → Read P f i t v j u
upd_read P f i t v j u = go (u == t) (j == i) (cmp u t) (cmp j i)
  where
    go : (a b : Bool) → Cmp u t a → Cmp j i b → P (cond (a && b) v (f j u)) → Read P f i t v j u
    go true true (same p) (same q) h = new p q h
    go true false (same p) (other q) h = old (λ a b. q b) h
    go false b (other p) q h = old (λ a b. p a) h

-- what holds of the new value at its place and of the old elsewhere
pub upd-put : {A : Type 0} (P : A → Type 0) (f : ℕ → ℕ → A) (i t : ℕ) (v : A) (j u : ℕ)
    → (u ≡ t → j ≡ i → P v) → ((u ≡ t → j ≡ i → ⊥) → P (f j u)) → P (upd f i t v j u)
upd-put P f i t v j u a b = go (u == t) (j == i) (cmp u t) (cmp j i)
  where
    go : (x y : Bool) → Cmp u t x → Cmp j i y → P (cond (x && y) v (f j u))
    go true true (same p) (same q) = a p q
    go true false (same p) (other q) = b (λ k l. q l)
    go false y (other p) q = b (λ k l. p k)

-- what holds after a store, and of the stored value only where it held before, held before
pub was : {A : Type 0} (P : A → Type 0) (f : ℕ → ℕ → A) (i t : ℕ) (v : A) (j u : ℕ) → (P v → P (f i t))
    → P (upd f i t v j u) → P (f j u)
was P f i t v j u k h = go (upd_read P f i t v j u h)
  where
    go : Read P f i t v j u → P (f j u)
    go (new a b r) = rw (a, b) (k r)
    go (old x r) = r
