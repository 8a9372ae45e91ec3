-- What stands in a text from a place on: a line and the lines after it, or what no line feed ends.
use Rattle.std.specs.Prelude.{◌≡◌, ℕ, ◌<◌, ◌≤◌, Option, None, List, [], ◌∷◌, length, drop, ◌≢◌}
use Rattle.text.specs.Line.{parts}
use Rattle.scenario.specs.declared.Reading.{Reading}
use Rattle.scenario.specs.Format.{faulted, next_by, homes_by, numbers_by}

-- from `at` on the text is a line l of which `good l` holds, and the others begin at `next`; or it is something that no line
-- feed ends, `next` is the end of the text, and `bad` holds
pub data Cut (t : List ℕ) (at next : ℕ) (good : List ℕ → Type 0) (bad : Type 0) : Type 0 where
  line : (l : List ℕ) → parts 10 (drop at t) ≡ l ∷ parts 10 (drop next t) → good l → Cut t at next good bad
  rest : (l : List ℕ) → parts 10 (drop at t) ≡ l ∷ [] → (length l ≢ 0) → next ≡ length t → bad
      → Cut t at next good bad

-- .. and `next` lies further on, inside
pub record Ahead (t : List ℕ) (at next : ℕ) (good : List ℕ → Type 0) (bad : Type 0) : Type 0 where
  pub further : at < next
  pub inside : next ≤ length t
  pub cut : Cut t at next good bad

-- any line
abbrev pub AnyAhead : List ℕ → ℕ → ℕ → Type 0
AnyAhead t at next = Ahead t at next (λ l. Unit) Unit

-- a line that says o where it is read so: nothing where no line feed ends it
abbrev pub LineSays : {A : Type 0} → List ℕ → ℕ → (List ℕ → Option A) → Option A → ℕ → Type 0
LineSays t at read o next = Ahead t at next (λ l. o ≡ read l) (o ≡ None)

-- a line that takes the reading m to r, and the lists hs and ns to hs' and ns'
abbrev pub LineAhead : List ℕ → ℕ → Reading → List ℕ → List ℕ → Reading → List ℕ → List ℕ → ℕ → Type 0
LineAhead t at m hs ns r hs' ns' next =
    Ahead t at next
    (λ l. (r ≡ next_by m.want m l) × (hs' ≡ homes_by m.want m l hs) × (ns' ≡ numbers_by m.want m l ns))
    ((r ≡ faulted m) × (hs' ≡ hs) × (ns' ≡ ns))
