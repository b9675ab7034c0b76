-- Laws of the entries at or past the rank (`stray` of `specs/Records.antt`). Assumes nothing.
use Prim.Native.Nat.{ℕ, ◌≤◌, ◌<◌}
use mathlib.Core.Path.{◌≡◌, refl}
use mathlib.Core.Bool.{Bool, true, false, not, ◌&&◌}
use borrow.Author.Tests.{le-leb, leb-true}
use lib.Dec.{eqb, leb}
use Rattle.plane.specs.declared.Tensor.{Tensor}
use Rattle.plane.specs.declared.Config.{Config}
use Rattle.plane.specs.Arrays.{at, some}
use Rattle.record.specs.Layout.{group_count, group}
use Rattle.record.specs.Records.{stray}

module _ (t : Tensor) (c : Config) where
  -- some group has an entry d that is not 0
  abbrev pub has : ℕ → Bool
  has d = some group_count (λ k. not (eqb (at (group t c k) d) 0))

  -- at or past the rank the entries decide
  pub stray_is : (d : ℕ) → t.rank ≤ d → stray t c d ≡ has d
  unfolding stray
  stray_is d h = simp (le-leb t.rank d h)

  -- so where none between the rank and d has one, none below d is stray
  pub none_stray : (d : ℕ) → ((k : ℕ) → t.rank ≤ k → k < d → has k ≡ false) → (k : ℕ) → k < d → stray t c k ≡ false
  unfolding stray
  none_stray d h k l = go (leb t.rank k) refl
    where
      go : (b : Bool) → leb t.rank k ≡ b → (b && has k) ≡ false
      go true e = h k (leb-true t.rank k e) l
      go false e = refl
