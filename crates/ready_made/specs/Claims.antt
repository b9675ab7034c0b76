-- What the theorems claim of a ready-made configuration.
use Rattle.std.specs.Prelude.{ℕ, ◌<◌, ◌≡◌, true, false, List}
use Rattle.plane.specs.declared.Config.{Config}
use Rattle.plane.specs.Arrays.{at}
use Rattle.plane.specs.Planes.{bad_rank}
use Rattle.plane.specs.Settings.{zero_config}
use Rattle.plane.specs.Unseen.{SameArrays}
use Rattle.ready_made.specs.ReadyMade.{cut_to, made_for, copy_of, slice_of, concatenate_of, subsample_of, permute_of, pad_chw_of, pad_hwc_of, all_of}

-- a right rank is given the configuration, cut to it
abbrev pub MadeGiven : Type 0
MadeGiven = (n : ℕ) (c : Config) → bad_rank n ≡ false → made_for n c ≡ record { status = 0; config = cut_to n c }

-- a wrong one is refused, and then all fields are 0
abbrev pub MadeRefused : Type 0
MadeRefused = (n : ℕ) (c : Config) → bad_rank n ≡ true → made_for n c ≡ record { status = 1; config = zero_config }

-- each has fill 0
pub record FillZero : Type 0 where
  pub copy : (n : ℕ) → (copy_of n).config.fill ≡ 0
  pub slice : (n : ℕ) (o z s : List ℕ) → (slice_of n o z s).config.fill ≡ 0
  pub concatenate : (n : ℕ) (o s : List ℕ) → (concatenate_of n o s).config.fill ≡ 0
  pub subsample : (n : ℕ) (p s : List ℕ) → (subsample_of n p s).config.fill ≡ 0
  pub permute : (n : ℕ) (p : List ℕ) → (permute_of n p).config.fill ≡ 0
  pub pad_chw : (left right top bottom : ℕ) (s : List ℕ) → (pad_chw_of left right top bottom s).fill ≡ 0
  pub pad_hwc : (left right top bottom : ℕ) (s : List ℕ) → (pad_hwc_of left right top bottom s).fill ≡ 0
  pub all : (n : ℕ) (o z p d s q a b : List ℕ) → (all_of n o z p d s q a b).config.fill ≡ 0

-- arguments that agree below the rank make the same configuration
abbrev pub MadeUnseen : Type 0
MadeUnseen = (n : ℕ) (c c' : Config) → SameArrays n c c' → c.fill ≡ c'.fill → made_for n c ≡ made_for n c'

-- so do the pads, which have rank 3
abbrev pub PadsUnseen : Type 0
PadsUnseen =
    (left right top bottom : ℕ) (s s' : List ℕ) → ((d : ℕ) → d < 3 → at s d ≡ at s' d) →
    (pad_chw_of left right top bottom s ≡ pad_chw_of left right top bottom s') ×
    (pad_hwc_of left right top bottom s ≡ pad_hwc_of left right top bottom s')
