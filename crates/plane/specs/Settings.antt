-- A configuration by its arrays and its fill, and the settings: one field is set to what is given, and the others are kept.
use Rattle.std.specs.Prelude.{ℕ, cond, List, [], ◌∷◌, eqb, get_or}
use Rattle.plane.specs.declared.Config.{Config}
use Rattle.plane.specs.Arrays.{zeros}

-- ---- The arrays, in the order of the record's bytes

abbrev pub array_count : ℕ
array_count = 8

abbrev pub arrays : Config → List (List ℕ)
arrays c = c.offset ∷ c.size ∷ c.step ∷ c.dst_offset ∷ c.dst_stride ∷ c.perm ∷ c.pre ∷ c.post ∷ []

abbrev pub array_of : Config → ℕ → List ℕ
array_of c k = get_or (arrays c) k []

-- the configuration whose array number k is f k, with that fill
abbrev pub config_of : (ℕ → List ℕ) → ℕ → Config
config_of f fill = record {
  offset = f 0;
  size = f 1;
  step = f 2;
  dst_offset = f 3;
  dst_stride = f 4;
  perm = f 5;
  pre = f 6;
  post = f 7;
  fill = fill;
}

abbrev pub zero_config : Config
zero_config = config_of (λ k. zeros) 0

-- ---- The settings

-- array number k set to x
abbrev pub with_array : ℕ → Config → List ℕ → Config
with_array k c x = config_of (λ j. cond (eqb j k) x (array_of c j)) c.fill

abbrev pub with_offset : Config → List ℕ → Config
with_offset c x = with_array 0 c x

abbrev pub with_size : Config → List ℕ → Config
with_size c x = with_array 1 c x

abbrev pub with_step : Config → List ℕ → Config
with_step c x = with_array 2 c x

abbrev pub with_dst_offset : Config → List ℕ → Config
with_dst_offset c x = with_array 3 c x

abbrev pub with_dst_stride : Config → List ℕ → Config
with_dst_stride c x = with_array 4 c x

abbrev pub with_perm : Config → List ℕ → Config
with_perm c x = with_array 5 c x

abbrev pub with_pre : Config → List ℕ → Config
with_pre c x = with_array 6 c x

abbrev pub with_post : Config → List ℕ → Config
with_post c x = with_array 7 c x

abbrev pub with_fill : Config → ℕ → Config
with_fill c n = config_of (array_of c) n
