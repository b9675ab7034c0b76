-- The ready-made configurations: what is refused and what is given. Assumes nothing.
use Prim.Native.Nat.{ℕ, ◌<◌}
use mathlib.Core.Path.{◌≡◌, refl, ap}
use mathlib.Core.Bool.{Bool, true, false, cond}
use mathlib.Core.List.{List, [], ◌∷◌}
use lib.Dec.{eqb}
use Rattle.plane.specs.declared.Config.{Config}
use Rattle.plane.specs.Arrays.{at, firsts}
use Rattle.plane.specs.Planes.{bad_rank}
use Rattle.plane.specs.Settings.{array_of, config_of, zero_config, with_dst_stride, with_pre, with_post}
use Rattle.plane.proofs.Arrays.{firsts_same}
use Rattle.plane.proofs.Configs.{same_config}
use Rattle.ready_made.specs.declared.Made.{Made}
use Rattle.ready_made.specs.ReadyMade.{defaults, cut_to, made_for}
use Rattle.ready_made.specs.Claims.{MadeGiven, MadeRefused, FillZero, MadeUnseen, PadsUnseen}

-- a configuration is refused for a wrong rank alone, and then all its fields are 0
pub made_given : MadeGiven
unfolding made_for
made_given n c e = simp e

pub made_refused : MadeRefused
unfolding made_for
made_refused n c e = simp e

-- each has fill 0
made_fill : (n : ℕ) (c : Config) → c.fill ≡ 0 → (made_for n c).config.fill ≡ 0
unfolding made_for cut_to
made_fill n c e = by_test (bad_rank n)
  where
    by_test : (b : Bool) → (cond {A = Made} b (record { status = 1; config = zero_config }) (record { status = 0; config = cut_to n c })).config.fill ≡ 0
    by_test true = refl
    by_test false = e

pub fill_zero : FillZero
unfolding cut_to
fill_zero = record {
  copy = λ n. made_fill n _ refl;
  slice = λ n o z s. made_fill n _ refl;
  concatenate = λ n o s. made_fill n _ refl;
  subsample = λ n p s. made_fill n _ refl;
  permute = λ n p. made_fill n _ refl;
  pad_chw = λ left right top bottom s. refl;
  pad_hwc = λ left right top bottom s. refl;
  all = λ n o z p d s q a b. made_fill n _ refl;
}

-- arguments that agree below the rank make the same configuration
pub made_unseen : MadeUnseen
unfolding made_for cut_to
made_unseen n c c' b e =
    ap (λ (x : Config). cond (bad_rank n) (record { status = 1; config = zero_config }) (record { status = 0; config = x }))
    (same_config _ _ (λ k h. firsts_same 0 n (at (array_of c k)) (at (array_of c' k)) (b.each k h)) e)

-- so do the pads: array number 4 has the destination strides
cut_stride : (c : Config) (s s' : List ℕ) → ((d : ℕ) → d < 3 → at s d ≡ at s' d) → cut_to 3 (with_dst_stride c s) ≡ cut_to 3 (with_dst_stride c s')
unfolding cut_to
cut_stride c s s' h =
    ap (λ (l : List ℕ). config_of (λ k. cond (eqb k 4) l (firsts 3 (at (array_of c k)))) c.fill) (firsts_same 0 3 (at s) (at s') h)

pub pads_unseen : PadsUnseen
pads_unseen left right top bottom s s' h = (
  cut_stride (with_post (with_pre defaults (0 ∷ top ∷ left ∷ 0 ∷ [])) (0 ∷ bottom ∷ right ∷ 0 ∷ [])) s s' h,
  cut_stride (with_post (with_pre defaults (top ∷ left ∷ 0 ∷ 0 ∷ [])) (bottom ∷ right ∷ 0 ∷ 0 ∷ [])) s s' h,
)
