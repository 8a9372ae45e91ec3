-- Messages put into channels: one about nobody changes nothing, and ready messages go out one transaction after the other.
use Rattle.std.specs.Prelude.{◌==◌, slice_index_or}
use Prim.Native.Nat.{ℕ, ◌+◌, ◌<◌}
use mathlib.Core.Path.{◌≡◌, refl, sym, ap, ◌∙◌, subst}
use mathlib.Core.Bool.{Bool, true, false, cond, or-false, ◌&&◌, ◌||◌}
use mathlib.Core.List.{List}
use native.Mathlib.Nat.{le_refl}
use lib.ListN.{length, set, length-set}
use lib.Seq.{get_or-set_same, get_or-set_other, ext_get_or}
use borrow.Author.Tests.{le-ltb, eq-eqb, ne_eqb}
use Rattle.sets.specs.Set.{has, none, is_empty, with, union, those}
use Rattle.sets.specs.Laws.{ext, has-none, has-union, has-those, has-with_same, has-with_other, empty_none}
use Rattle.protocol.specs.State.{no_place, txn_in, with_places, with_channel}
use Rattle.protocol.specs.Channel.{put, ready_with, delivered, homed_at, others, multicast}
use Rattle.protocol.specs.declared.Message.{Message}
use Rattle.protocol.specs.declared.Message.TheVariants.{Remote, Ready, Commit, Abort}
use Rattle.protocol.specs.declared.Channel.{Channel}
use Rattle.protocol.specs.declared.Place.{Place}
use Rattle.protocol.specs.declared.Txn.{Txn}
use Rattle.protocol.specs.declared.State.{State}
use Rattle.laws.specs.Tests.{Same, same, other, same?, either_left, either_right}
use Rattle.laws.specs.Lists.{length-each, get_or-each}
use Rattle.rules.specs.Turn.{posted}
use Rattle.rules.proofs.Loops.{from_same, those-none, those_turned, those_passed}

-- ---- a message about nobody changes no channel

union-none : (a : ℕ) → union a none ≡ a
union-none a = ext (union a none) a (λ k. simp (has-union, has-none, or-false))

pub put-none : (m : Message) (c : Channel) → put m none c ≡ c
unfolding put ready_with
put-none Remote c = rw (union-none c.remote)
put-none (Ready k) c = rw (from_same (λ t from. cond (has none t) (with from k) from) (λ t x. rw (has-none t)) 0 c.ready)
put-none Commit c = rw (union-none c.commit)
put-none Abort c = rw (union-none c.abort)

delivered-none : (m : Message) (to : ℕ → ℕ) (ps : List Place) → ((j : ℕ) → to j ≡ none) → delivered m to ps ≡ ps
unfolding delivered
delivered-none m to ps h = from_same _ (λ j p. rw (h j, put-none m p.channel)) 0 ps

cond_same : (b : Bool) (n : ℕ) → cond b n n ≡ n
cond_same true n = refl
cond_same false n = refl

homed-none : (xs : List Txn) (j : ℕ) → homed_at xs none j ≡ none
unfolding homed_at
homed-none xs j = those-none _ _ (λ t. rw (has-none t))

multicast-none : (m : Message) (i : ℕ) (s : State) → multicast m i none s ≡ s
multicast-none m i s = rw (delivered-none m (λ j. cond (has (others s i) j) none none) s.places (λ j. cond_same (has (others s i) j) none))

-- no ready, and no message at all
pub posted_told : (i : ℕ) (m : Message) (ts : ℕ) (s : State) → posted i m ts none s ≡ multicast m i ts s
unfolding posted
posted_told i m ts s = rw (delivered-none (Ready i) (homed_at s.txns none) _ (homed-none s.txns))

pub posted-none : (i : ℕ) (m : Message) (s : State) → posted i m none none s ≡ s
posted-none i m s = posted_told i m none s ∙ multicast-none m i s

both_none : (a b : ℕ) → is_empty (union a b) ≡ true → (a ≡ none) × (b ≡ none)
both_none a b h =
    let out : (k : ℕ) → (has a k || has b k) ≡ false = λ k. sym (has-union a b k) ∙ empty_none (union a b) k h in (
      ext a none (λ k. either_left (has a k) (has b k) (out k) ∙ sym (has-none k)),
      ext b none (λ k. either_right (has a k) (has b k) (out k) ∙ sym (has-none k)),
    )

module _ (i : ℕ) (m : Message) (ts rs : ℕ) (s : State) where
  -- the code posts where there is something to post
  pub nothing-posted : is_empty (union ts rs) ≡ true → s ≡ posted i m ts rs s
  nothing-posted h = let n = both_none ts rs h in rw (n.0, n.1) (sym (posted-none i m s))

  pub all_posted : (qs : List Place)
      → qs ≡ delivered (Ready i) (homed_at s.txns rs) (delivered m (λ j. cond (has (others s i) j) ts none) s.places)
      → with_places s qs ≡ posted i m ts rs s
  unfolding posted
  all_posted qs h = rw h

-- ---- ready messages, one transaction after the other

-- one more transaction in the set: its senders are one more
module _ (l : List ℕ) (i : ℕ) where
  abbrev sender : ℕ → ℕ → ℕ → ℕ
  sender m u from = cond (has m u) (with from i) from

  at : (m j : ℕ) → j < length l → slice_index_or (ready_with l m i) j 0 ≡ cond (has m j) (with (slice_index_or l j 0) i) (slice_index_or l j 0)
  unfolding ready_with
  at m j g = get_or-each (sender m) l j 0 g

  long : (m : ℕ) → length (ready_with l m i) ≡ length l
  unfolding ready_with
  long m = length-each (sender m) l

  module _ (m t : ℕ) (b : t < 32) (h : has m t ≡ false) where
    abbrev more : ℕ
    more = with (slice_index_or (ready_with l m i) t 0) i

    at_more : (j : ℕ) → j < length l → Same j t → slice_index_or (set (ready_with l m i) t more) j 0 ≡ slice_index_or (ready_with l (with m t) i) j 0
    at_more j g (same e) =
        subst (λ (k : ℕ). slice_index_or (set (ready_with l m i) t more) k 0 ≡ slice_index_or (ready_with l (with m t) i) k 0) (sym e)
        (let g' : t < length l = subst (λ (k : ℕ). k < length l) e g in
        get_or-set_same (ready_with l m i) t more 0 (subst (λ (n : ℕ). t < n) (sym (long m)) g')
        ∙ rw (at m t g', h, at (with m t) t g', has-with_same 32 m t b))
    at_more j g (other n) =
        get_or-set_other (ready_with l m i) t j more 0 n ∙ rw (at m j g, at (with m t) j g, has-with_other 32 m t j n)

    one_readied : set (ready_with l m i) t more ≡ ready_with l (with m t) i
    one_readied =
        let n : length (set (ready_with l m i) t more) ≡ length l = length-set (ready_with l m i) t more ∙ long m in
        ext_get_or 0 (set (ready_with l m i) t more) (ready_with l (with m t) i) (n ∙ sym (long (with m t)))
        (λ j g. at_more j (subst (λ (k : ℕ). j < k) n g) (same? j t))

-- the channel with a ready from site i about t
abbrev readied : ℕ → ℕ → Channel → Channel
readied i t c = record { remote = c.remote; ready = set c.ready t (with (slice_index_or c.ready t 0) i); commit = c.commit; abort = c.abort }

module _ (i : ℕ) (xs : List Txn) (ts : ℕ) where
  -- t is of the set and has its home at j
  abbrev homed : ℕ → ℕ → Bool
  homed j t = has ts t && (txn_in xs t).home == j

  abbrev reached_by : ℕ → ℕ → Place → Place
  reached_by t j p = with_channel p (put (Ready i) (those t (homed j)) p.channel)

  -- the ready messages about the transactions below t
  abbrev pub readied_to : ℕ → List Place → List Place
  readied_to t ps = delivered (Ready i) (λ j. those t (homed j)) ps

  pub readied_begun : (ps : List Place) → ps ≡ readied_to 0 ps
  unfolding those
  readied_begun ps = sym (delivered-none (Ready i) (λ j. none) ps (λ j. refl))

  module _ (t : ℕ) (w ps : List Place) (so_far : w ≡ readied_to t ps) where
    as_long : length w ≡ length ps
    unfolding delivered
    as_long = ap length so_far ∙ length-each (reached_by t) ps

    at_place : (u j : ℕ) → j < length ps → slice_index_or (readied_to u ps) j no_place ≡ reached_by u j (slice_index_or ps j no_place)
    unfolding delivered
    at_place u j l = get_or-each (reached_by u) ps j no_place l

    at_first : (j : ℕ) → j < length ps → slice_index_or w j no_place ≡ reached_by t j (slice_index_or ps j no_place)
    at_first j l = ap (λ (x : List Place). slice_index_or x j no_place) so_far ∙ at_place t j l

    -- the sites at which t has no home
    stays_so : (j : ℕ) → j < length ps → homed j t ≡ false → slice_index_or w j no_place ≡ slice_index_or (readied_to (t + 1) ps) j no_place
    stays_so j l h = at_first j l ∙ rw (those_passed (homed j) t (those t (homed j)) refl h) (sym (at_place (t + 1) j l))

    by_places : (v : List Place) → length v ≡ length ps
        → ((j : ℕ) → j < length ps → slice_index_or v j no_place ≡ slice_index_or (readied_to (t + 1) ps) j no_place) → v ≡ readied_to (t + 1) ps
    unfolding delivered
    by_places v n f =
        ext_get_or no_place v (readied_to (t + 1) ps) (n ∙ sym (length-each (reached_by (t + 1)) ps))
        (λ j g. f j (subst (λ (k : ℕ). j < k) n g))

    -- a turn that sends none
    pub readied_passed : ((j : ℕ) → j < length ps → homed j t ≡ false) → w ≡ readied_to (t + 1) ps
    readied_passed h = by_places w as_long (λ j l. stays_so j l (h j l))

    -- a turn that sends one, to site k
    pub readied_turned : (k : ℕ) → k ≡ (txn_in xs t).home → k < length ps → t < 32 → has ts t ≡ true
        → (v : Place) → v ≡ with_channel (slice_index_or w k no_place) (readied i t (slice_index_or w k no_place).channel)
        → set w k v ≡ readied_to (t + 1) ps
    unfolding put
    readied_turned k e l b h v q =
        by_places (set w k v) (length-set w k v ∙ as_long) (λ j g. go j g (same? j k))
      where
        one_more : those (t + 1) (homed k) ≡ with (those t (homed k)) t
        one_more =
            sym (those_turned (homed k) t (those t (homed k)) (with (those t (homed k)) t) b refl (rw (h, eq-eqb _ _ (sym e))) refl)

        fresh : has (those t (homed k)) t ≡ false
        fresh = has-those t (homed k) t ∙ rw (le-ltb t t (le_refl t))

        go : (j : ℕ) → j < length ps → Same j k → slice_index_or (set w k v) j no_place ≡ slice_index_or (readied_to (t + 1) ps) j no_place
        go j g (same f) =
            subst (λ (x : ℕ). slice_index_or (set w k v) x no_place ≡ slice_index_or (readied_to (t + 1) ps) x no_place) (sym f)
            (get_or-set_same w k v no_place (subst (λ (n : ℕ). k < n) (sym as_long) l)
            ∙ q
            ∙ rw (at_first k l, at_place (t + 1) k l, one_more, one_readied (slice_index_or ps k no_place).channel.ready i (those t (homed k)) t b fresh))
        go j g (other n) =
            get_or-set_other w k j v no_place n
            ∙ stays_so j g (rw (h, ne_eqb _ _ (λ (z : (txn_in xs t).home ≡ j). n (sym (e ∙ z)))))
