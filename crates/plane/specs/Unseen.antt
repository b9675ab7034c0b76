-- Entries at or past the rank are not looked at, nor is the fill: records and configurations whose entries below the rank agree have
-- the same answers.
use Rattle.std.specs.Prelude.{ℕ, ◌<◌, ◌≡◌}
use Rattle.plane.specs.declared.Tensor.{Tensor}
use Rattle.plane.specs.declared.Config.{Config}
use Rattle.plane.specs.declared.SubConfig.{SubConfig}
use Rattle.plane.specs.Arrays.{at}
use Rattle.plane.specs.Signs.{at_z}
use Rattle.plane.specs.Planes.{source_of}
use Rattle.plane.specs.Settings.{array_count, array_of}
use Rattle.plane.specs.Moves.{judge_of, room_of}
use Rattle.plane.specs.Helpers.{count_of, sub_tensor_of}

-- ---- what agrees

pub record SameTensor (t t' : Tensor) : Type 0 where
  pub rank : t.rank ≡ t'.rank
  pub element : t.element_size ≡ t'.element_size
  pub shape : (d : ℕ) → d < t.rank → at t.shape d ≡ at t'.shape d
  pub stride : (d : ℕ) → d < t.rank → at_z t.stride d ≡ at_z t'.stride d

-- every array, below the rank n; fills may differ
pub record SameArrays (n : ℕ) (c c' : Config) : Type 0 where
  pub each : (k : ℕ) → k < array_count → (d : ℕ) → d < n → at (array_of c k) d ≡ at (array_of c' k) d

pub record SameSub (n : ℕ) (s s' : SubConfig) : Type 0 where
  pub offset : (d : ℕ) → d < n → at s.offset d ≡ at s'.offset d
  pub size : (d : ℕ) → d < n → at s.size d ≡ at s'.size d
  pub rank : s.rank ≡ s'.rank

-- ---- what comes to the same: whatever f works out of

-- a tensor record
abbrev pub UnseenTensor : {A : Type 0} → (Tensor → A) → Type 0
UnseenTensor f = (t t' : Tensor) → SameTensor t t' → f t ≡ f t'

-- and a configuration
abbrev pub UnseenConfig : {A : Type 0} → (Tensor → Config → A) → Type 0
UnseenConfig f = (t t' : Tensor) → SameTensor t t' → (c c' : Config) → SameArrays t.rank c c' → f t c ≡ f t' c'

-- and a sub-tensor's numbers
abbrev pub UnseenSub : {A : Type 0} → (Tensor → SubConfig → A) → Type 0
UnseenSub f = (t t' : Tensor) → SameTensor t t' → (s s' : SubConfig) → SameSub t.rank s s' → f t s ≡ f t' s'

-- so every call that is handed such
pub record CallsUnseen : Type 0 where
  pub source : UnseenTensor source_of
  pub room : UnseenConfig room_of
  pub judge : (srcLen dstLen : ℕ) → UnseenConfig (λ t c. judge_of t c srcLen dstLen)
  pub count : (start : ℕ) → UnseenTensor (λ t. count_of t start)
  pub sub : (srcLen : ℕ) → UnseenSub (λ t s. sub_tensor_of t s srcLen)
