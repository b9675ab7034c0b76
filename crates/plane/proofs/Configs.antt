-- Configurations by their arrays and their fill. Assumes nothing.
use Prim.Native.Nat.{ℕ, ◌<◌}
use native.Mathlib.Omega.{arith}
use mathlib.Core.Path.{◌≡◌}
use mathlib.Core.List.{List, [], ◌∷◌}
use lib.ListN.{get_or}
use Rattle.plane.specs.declared.Config.{Config}
use Rattle.plane.specs.Arrays.{at}
use Rattle.plane.specs.Settings.{array_count, config_of}
use Rattle.plane.specs.Unseen.{SameArrays}

-- the same arrays and the same fill make the same configuration
pub same_config : (f g : ℕ → List ℕ) → ((k : ℕ) → k < array_count → f k ≡ g k) → {m n : ℕ} → m ≡ n → config_of f m ≡ config_of g n
same_config f g h e =
    let e0 = h 0 (omega arith) in
    let e1 = h 1 (omega arith) in
    let e2 = h 2 (omega arith) in
    let e3 = h 3 (omega arith) in
    let e4 = h 4 (omega arith) in
    let e5 = h 5 (omega arith) in
    let e6 = h 6 (omega arith) in
    let e7 = h 7 (omega arith) in
    λ i. config_of (λ k. get_or (e0 i ∷ e1 i ∷ e2 i ∷ e3 i ∷ e4 i ∷ e5 i ∷ e6 i ∷ e7 i ∷ []) k []) (e i)

-- of configurations whose arrays agree below n: each of them by its name
module _ {n : ℕ} {c c' : Config} (b : SameArrays n c c') where
  pub same_offset : (d : ℕ) → d < n → at c.offset d ≡ at c'.offset d
  same_offset = b.each 0 (omega arith)

  pub same_size : (d : ℕ) → d < n → at c.size d ≡ at c'.size d
  same_size = b.each 1 (omega arith)

  pub same_step : (d : ℕ) → d < n → at c.step d ≡ at c'.step d
  same_step = b.each 2 (omega arith)

  pub same_dst_offset : (d : ℕ) → d < n → at c.dst_offset d ≡ at c'.dst_offset d
  same_dst_offset = b.each 3 (omega arith)

  pub same_dst_stride : (d : ℕ) → d < n → at c.dst_stride d ≡ at c'.dst_stride d
  same_dst_stride = b.each 4 (omega arith)

  pub same_perm : (d : ℕ) → d < n → at c.perm d ≡ at c'.perm d
  same_perm = b.each 5 (omega arith)

  pub same_pre : (d : ℕ) → d < n → at c.pre d ≡ at c'.pre d
  same_pre = b.each 6 (omega arith)

  pub same_post : (d : ℕ) → d < n → at c.post d ≡ at c'.post d
  same_post = b.each 7 (omega arith)
