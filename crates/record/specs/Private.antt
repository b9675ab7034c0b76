-- What the contracts of private functions cite. No reader of a public contract needs this file.
use Rattle.std.specs.Prelude.{ℕ, ◌+◌, ◌*◌, List, ◌++◌, Result, Ok, Err}
use Rattle.faults.specs.declared.Fault.{Fault}
use Rattle.faults.specs.Faults.{none}
use Rattle.plane.specs.declared.Tensor.{Tensor}
use Rattle.plane.specs.declared.Config.{Config}
use Rattle.plane.specs.Settings.{array_count, array_of}
use Rattle.record.specs.Layout.{consecutive, twos_words, head_length, head_bytes, width, four_bytes}

-- the fault that a check tells: none where it passes
abbrev pub fault_in : {A : Type 0} → Result A Fault → Fault
fault_in (Ok x) = none
fault_in (Err f) = f

-- the bytes of a record of version v up to the end of the strides
unfoldable pub tensor_bytes : ℕ → Tensor → List ℕ
tensor_bytes v t = head_bytes v t.rank t.element_size ++ four_bytes 4 t.shape ++ four_bytes 4 (twos_words t.stride)

-- where they end: past two groups
abbrev pub config_at : ℕ
config_at = head_length + 2 * (4 * 4)

-- the bytes from there to the end of the groups
unfoldable pub config_bytes : Config → List ℕ
config_bytes c = consecutive array_count (λ k. four_bytes (width (2 + k)) (array_of c k))
