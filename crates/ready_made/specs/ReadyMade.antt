-- The ready-made configurations.
use Rattle.std.specs.Prelude.{ℕ, cond, List, [], ◌∷◌}
use Rattle.plane.specs.declared.Config.{Config}
use Rattle.plane.specs.Arrays.{at, firsts}
use Rattle.plane.specs.Planes.{bad_rank}
use Rattle.plane.specs.Settings.{array_of, config_of, zero_config, with_offset, with_size, with_step, with_dst_offset, with_dst_stride, with_perm, with_pre, with_post}
use Rattle.ready_made.specs.declared.Made.{Made}

-- ---- For a rank

-- step 1, permutation entry d at d, the rest 0
abbrev pub defaults : Config
defaults = with_perm (with_step zero_config (1 ∷ 1 ∷ 1 ∷ 1 ∷ [])) (0 ∷ 1 ∷ 2 ∷ 3 ∷ [])

-- the configuration with 0 in every entry at or past the rank n; its fill is kept
unfoldable pub cut_to : ℕ → Config → Config
cut_to n c = config_of (λ k. firsts n (at (array_of c k))) c.fill

-- a wrong rank is answered by 1 and all fields 0
unfoldable pub made_for : ℕ → Config → Made
made_for n c = cond (bad_rank n) (record { status = 1; config = zero_config }) (record { status = 0; config = cut_to n c })

-- ---- The eight, with the arguments of the MLI text

abbrev pub copy_of : ℕ → Made
copy_of n = made_for n defaults

abbrev pub slice_of : ℕ → List ℕ → List ℕ → List ℕ → Made
slice_of n offset size dstStride = made_for n (with_dst_stride (with_size (with_offset defaults offset) size) dstStride)

abbrev pub concatenate_of : ℕ → List ℕ → List ℕ → Made
concatenate_of n dstOffset dstStride = made_for n (with_dst_stride (with_dst_offset defaults dstOffset) dstStride)

abbrev pub subsample_of : ℕ → List ℕ → List ℕ → Made
subsample_of n step dstStride = made_for n (with_dst_stride (with_step defaults step) dstStride)

abbrev pub permute_of : ℕ → List ℕ → Made
permute_of n perm = made_for n (with_perm defaults perm)

-- of rank 3; C, H, W are dimensions 0, 1, 2
abbrev pub pad_chw_of : ℕ → ℕ → ℕ → ℕ → List ℕ → Config
pad_chw_of left right top bottom dstStride =
    cut_to 3 (with_dst_stride (with_post (with_pre defaults (0 ∷ top ∷ left ∷ 0 ∷ [])) (0 ∷ bottom ∷ right ∷ 0 ∷ [])) dstStride)

-- of rank 3; H, W, C are dimensions 0, 1, 2
abbrev pub pad_hwc_of : ℕ → ℕ → ℕ → ℕ → List ℕ → Config
pad_hwc_of left right top bottom dstStride =
    cut_to 3 (with_dst_stride (with_post (with_pre defaults (top ∷ left ∷ 0 ∷ 0 ∷ [])) (bottom ∷ right ∷ 0 ∷ 0 ∷ [])) dstStride)

-- every array as given, and fill 0
abbrev pub all_of : ℕ → List ℕ → List ℕ → List ℕ → List ℕ → List ℕ → List ℕ → List ℕ → List ℕ → Made
all_of n offset size step dstOffset dstStride perm pre post =
    made_for n (record {
      offset = offset;
      size = size;
      step = step;
      dst_offset = dstOffset;
      dst_stride = dstStride;
      perm = perm;
      pre = pre;
      post = post;
      fill = 0;
    })
