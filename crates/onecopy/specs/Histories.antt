-- Lists of transactions in the order of their commits, which grow at the end: those that write an object, the version
-- that the last of them leaves, and how far a site's log lags behind L.
use Rattle.std.specs.Prelude.{ℕ, ◌+◌, ◌≡◌, refl, Bool, true, false, cond, ◌⊎◌, List, [], ◌∷◌, ◌++◌}
use Rattle.onecopy.specs.Words.{sym, ◌∙◌, ap, false≢true, inl, inr, ⊎_elim, Memᴰ-head, Memᴰ-tail, Memᴰ-append_cases, Memᴰ-eq_of_singleton, Memᴰ-not_nil, Memᴰ-append_left, Memᴰ-append_right, put, keep, in_keep, keep_in, keep_ext, keep_yes, keep_no}
use Rattle.onecopy.specs.Statements.{In, Before, now, later, Once, ran_on, replay}

-- ---- the version that the last of a list leaves

abbrev pub last : ℕ → List ℕ → ℕ
last v [] = v
last v (t ∷ l) = last (t + 1) l

pub last_snoc : (v : ℕ) (l : List ℕ) (t : ℕ) → last v (l ++ (t ∷ [])) ≡ t + 1
last_snoc v [] t = refl
last_snoc v (x ∷ l) t = last_snoc (x + 1) l t

-- a replay leaves of each object the version of its last writer
pub replay-last : (writes : ℕ → ℕ → Bool) (copy : ℕ → ℕ) (l : List ℕ) (o : ℕ)
    → replay writes copy l o ≡ last (copy o) (keep (λ t. writes t o) l)
replay-last writes copy [] o = refl
replay-last writes copy (t ∷ l) o = replay-last writes (ran_on writes copy t) l o ∙ go (writes t o)
  where
    go : (b : Bool)
        → last (cond b (t + 1) (copy o)) (keep (λ t. writes t o) l) ≡ last (copy o) (put b t (keep (λ t. writes t o) l))
    go true = refl
    go false = refl

-- ---- who stands before whom

before-left : {x y : ℕ} {l : List ℕ} (m : List ℕ) → Before x y l → Before x y (l ++ m)
before-left m (now e h) = now e (Memᴰ-append_left m h)
before-left m (later b) = later (before-left m b)

put-before : {x y : ℕ} (z : ℕ) (b : Bool) (l : List ℕ) → Before x y l → Before x y (put b z l)
put-before z true l h = later h
put-before z false l h = h

put-now : {x y z : ℕ} (b : Bool) (l : List ℕ) → b ≡ true → x ≡ z → In y l → Before x y (put b z l)
put-now true l e q h = now q h
put-now false l e q h = absurd (false≢true e)

before-keep : (p : ℕ → Bool) {x y : ℕ} {l : List ℕ} → p x ≡ true → p y ≡ true → Before x y l → Before x y (keep p l)
before-keep p a b (now {x = z} {l = l} e h) = put-now (p z) (keep p l) (rw e at a) e (in_keep p h b)
before-keep p a b (later {x = z} {l = l} h) = put-before z (p z) (keep p l) (before-keep p a b h)

before-put : (x y z : ℕ) (l m : List ℕ) (b : Bool) → (In y m → In y l) → (Before x y m → Before x y l)
    → Before x y (put b z m) → Before x y (z ∷ l)
before-put x y z l m true f g (now e h) = now e (f h)
before-put x y z l m true f g (later h) = later (g h)
before-put x y z l m false f g h = later (g h)

keep-before : (p : ℕ → Bool) {x y : ℕ} (l : List ℕ) → Before x y (keep p l) → Before x y l
keep-before p [] h = elim h [ ]
keep-before p {x} {y} (z ∷ l) h =
    before-put x y z l (keep p l) (p z) (λ i. (keep_in p l i).0) (λ b. keep-before p l b) h

before_snoc : {x y : ℕ} (l : List ℕ) (t : ℕ) → Before x y (l ++ (t ∷ [])) → Before x y l ⊎ (In x l × (y ≡ t))
before_snoc [] t (now e m) = absurd (Memᴰ-not_nil m)
before_snoc [] t (later b) = absurd (none b)
  where
    none : {x y : ℕ} → Before x y [] → ⊥
    none = elim [ ]
before_snoc (z ∷ l) t (now e m) =
    ⊎_elim (λ k. inl (now e k)) (λ k. inr (Memᴰ-head e, Memᴰ-eq_of_singleton k)) (Memᴰ-append_cases l m)
before_snoc (z ∷ l) t (later b) =
    ⊎_elim (λ k. inl (later k)) (λ k. inr (Memᴰ-tail k.0, k.1)) (before_snoc l t b)

-- a list in which none stands twice, and one more that is not in it
pub once_nil : Once []
once_nil t = elim [ ]

pub once_snoc : (l : List ℕ) (t : ℕ) → (In t l → ⊥) → Once l → Once (l ++ (t ∷ []))
once_snoc l t n o u b = ⊎_elim (λ k. o u k) (λ k. n (rw k.1 at k.0)) (before_snoc l t b)

-- ---- Lag: of those that pass the test p (the writers of one object), a log m has all that stand in l, which is L, in the
-- same order, or all but the last, which is late there

pub data Lag (p : ℕ → Bool) (late : ℕ → Type 0) (l m : List ℕ) : Type 0 where
  level : keep p l ≡ keep p m → Lag p late l m
  behind : (t : ℕ) → keep p l ≡ keep p m ++ (t ∷ []) → late t → Lag p late l m

-- the one that a log lacks stands in L and passes the test
pub lag_one : (p : ℕ → Bool) (l m : List ℕ) (t : ℕ) → keep p l ≡ keep p m ++ (t ∷ []) → In t l × (p t ≡ true)
lag_one p l m t e = keep_in p l (rw e (Memᴰ-append_right (keep p m) (Memᴰ-head refl)))

-- two writers of one object stand in the log as they stand in L
pub in_order : {p : ℕ → Bool} {late : ℕ → Type 0} {l m : List ℕ} {x y : ℕ} → Lag p late l m → p x ≡ true → p y ≡ true
    → Before x y m → Before x y l
in_order {p} {l = l} (level e) a b h = keep-before p l (rw e (before-keep p a b h))
in_order {p} {l = l} (behind t e w) a b h = keep-before p l (rw e (before-left (t ∷ []) (before-keep p a b h)))

-- where no writer is late, the log leaves the version that L leaves
pub lag_last : {p : ℕ → Bool} {late : ℕ → Type 0} {l m : List ℕ} (v : ℕ) → Lag p late l m
    → ((t : ℕ) → In t l → p t ≡ true → late t → ⊥) → last v (keep p m) ≡ last v (keep p l)
lag_last v (level e) all = rw e
lag_last {p} {l = l} {m = m} v (behind t e w) all =
    let one = lag_one p l m t e in absurd (all t one.0 one.1 w)

pub lag_late : {p : ℕ → Bool} {late late' : ℕ → Type 0} {l m : List ℕ}
    → ((t : ℕ) → In t l → p t ≡ true → late t → late' t) → Lag p late l m → Lag p late' l m
lag_late f (level e) = level e
lag_late {p} {l = l} {m = m} f (behind t e w) =
    let one = lag_one p l m t e in behind t e (f t one.0 one.1 w)

pub lag_ext : {p q : ℕ → Bool} {late : ℕ → Type 0} {l m : List ℕ} → ((t : ℕ) → In t l → p t ≡ q t)
    → ((t : ℕ) → In t m → p t ≡ q t) → Lag p late l m → Lag q late l m
lag_ext {p} {q} {l = l} {m = m} f g (level e) = level (sym (keep_ext p q l f) ∙ e ∙ keep_ext p q m g)
lag_ext {p} {q} {l = l} {m = m} f g (behind t e w) =
    behind t (sym (keep_ext p q l f) ∙ e ∙ ap (λ (r : List ℕ). r ++ (t ∷ [])) (keep_ext p q m g)) w

-- t joins L, and the log where d says so: before it no writer of what t writes is late, and then t is late where it has
-- not joined
pub lag_led : {p : ℕ → Bool} {late late' : ℕ → Type 0} (l m : List ℕ) (t : ℕ) (d : Bool)
    → (p t ≡ true → (u : ℕ) → In u l → p u ≡ true → late u → ⊥) → (d ≡ false → late' t)
    → (p t ≡ false → (u : ℕ) → p u ≡ true → late u → late' u) → Lag p late l m
    → Lag p late' (l ++ (t ∷ [])) (cond d (m ++ (t ∷ [])) m)
lag_led {p} {late} {late'} l m t d none new still = go d (p t) refl new
  where
    go : (d e : Bool) → p t ≡ e → (d ≡ false → late' t) → Lag p late l m
        → Lag p late' (l ++ (t ∷ [])) (cond d (m ++ (t ∷ [])) m)
    go d true f n (behind u e k) = absurd (none f u (lag_one p l m u e).0 (lag_one p l m u e).1 k)
    go true true f n (level e) = level (keep_yes p l t f ∙ rw e (sym (keep_yes p m t f)))
    go false true f n (level e) = behind t (keep_yes p l t f ∙ rw e) (n refl)
    go true false f n (level e) = level (keep_no p l t f ∙ e ∙ sym (keep_no p m t f))
    go false false f n (level e) = level (keep_no p l t f ∙ e)
    go true false f n (behind u e k) =
        behind u (keep_no p l t f ∙ e ∙ ap (λ (r : List ℕ). r ++ (u ∷ [])) (sym (keep_no p m t f))) (still f u (lag_one p l m u e).1 k)
    go false false f n (behind u e k) = behind u (keep_no p l t f ∙ e) (still f u (lag_one p l m u e).1 k)

-- t, which L has, joins the log, which has not had it
pub lag_followed : {p : ℕ → Bool} {late late' : ℕ → Type 0} (l m : List ℕ) (t : ℕ) → In t l → (In t m → ⊥)
    → (p t ≡ false → (u : ℕ) → p u ≡ true → late u → late' u) → Lag p late l m → Lag p late' l (m ++ (t ∷ []))
lag_followed {p} {late} {late'} l m t i out still = go (p t) refl
  where
    go : (e : Bool) → p t ≡ e → Lag p late l m → Lag p late' l (m ++ (t ∷ []))
    go true f (level e) = absurd (out (keep_in p m (rw e at (in_keep p i f))).0)
    go true f (behind u e k) =
        ⊎_elim (λ z. absurd (out (keep_in p m z).0))
        (λ z. let y : t ≡ u = Memᴰ-eq_of_singleton z in level (e ∙ rw (← y) (sym (keep_yes p m t f))))
        (Memᴰ-append_cases (keep p m) (rw e at (in_keep p i f)))
    go false f (level e) = level (e ∙ sym (keep_no p m t f))
    go false f (behind u e k) =
        behind u (e ∙ ap (λ (r : List ℕ). r ++ (u ∷ [])) (sym (keep_no p m t f))) (still f u (lag_one p l m u e).1 k)
