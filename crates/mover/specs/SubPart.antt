-- The part of a lent source at which a sub-tensor starts.
use Rattle.std.specs.Prelude.{ℕ, List, [], length, drop}
use Rattle.plane.specs.declared.Tensor.{Tensor}
use Rattle.plane.specs.declared.SubConfig.{SubConfig}
use Rattle.faults.specs.Faults.{if_fault}
use Rattle.plane.specs.Helpers.{sub_fault, sub_byte}

-- the source from the sub-tensor's byte to its end; a refused sub-tensor hands back an empty part
unfoldable pub sub_part : Tensor → SubConfig → List ℕ → List ℕ
sub_part t s src = if_fault (sub_fault t s (length src)) [] (drop (sub_byte t s) src)
