-- What a comparison of two slots tells: the derived one is true exactly if they are one slot. Assumes nothing.
use Prim.Native.Nat.{ℕ}
use mathlib.Core.Path.{◌≡◌, ap}
use mathlib.Core.Bool.{Bool, ◌&&◌}
use mathlib.Core.List.{List}
use lib.Dec.{eqb}
use Rattle.std.specs.Bool.{Decides}
use Rattle.std.specs.Cmp.{first_so, second_so, unsigned_Decides}
use Rattle.std.specs.Cmp.Lexicographic.{pointwise, pointwise_decides}
use Rattle.std.specs.Cmp.Rules.{signed_items}
use Rattle.plane.specs.declared.Tensor.{Tensor}
use Rattle.plane.specs.declared.Config.{Config}
use Rattle.parts.specs.declared.Part.{Part}
use Rattle.mover.specs.declared.Job.{Job}
use Rattle.transfers.specs.declared.Slot.{Slot}
use Rattle.std.proofs.Common.{int_eq}

numbers : (xs ys : List ℕ) → Decides (pointwise eqb xs ys) (xs ≡ ys)
numbers = pointwise_decides unsigned_Decides

-- two comparisons, of two parts
both_decide : {P Q : Type 0} (r s : Bool) → Decides r P → Decides s Q → Decides (r && s) (P × Q)
both_decide r s p q = (λ e. (p.0 (first_so r s e), q.0 (second_so r s e)), λ w. λ i. p.1 w.0 i && q.1 w.1 i)

by : {P Q : Type 0} (r : Bool) → (P → Q) → (Q → P) → Decides r P → Decides r Q
by r f g d = (λ e. f (d.0 e), λ q. d.1 (g q))

part_decides : (p q : Part) → Decides (eqb p.start q.start && eqb p.length q.length) (p ≡ q)
part_decides p q =
    by _ (λ w. λ i. record { start = w.0 i; length = w.1 i })
    (λ e. (ap (λ (x : Part). x.start) e, ap (λ (x : Part). x.length) e))
    (both_decide _ _ (unsigned_Decides p.start q.start) (unsigned_Decides p.length q.length))

abbrev tensors : Tensor → Tensor → Bool
tensors t u =
    eqb t.rank u.rank && (eqb t.element_size u.element_size && (pointwise eqb t.shape u.shape && pointwise int_eq t.stride u.stride))

tensor_decides : (t u : Tensor) → Decides (tensors t u) (t ≡ u)
tensor_decides t u =
    by _ (λ w. λ i. record { rank = w.0 i; element_size = w.1.0 i; shape = w.1.1.0 i; stride = w.1.1.1 i })
    (λ e. (ap (λ (x : Tensor). x.rank) e, (ap (λ (x : Tensor). x.element_size) e, (ap (λ (x : Tensor). x.shape) e, ap (λ (x : Tensor). x.stride) e))))
    (both_decide _ _ (unsigned_Decides t.rank u.rank)
    (both_decide _ _ (unsigned_Decides t.element_size u.element_size)
    (both_decide _ _ (numbers t.shape u.shape) (signed_items t.stride u.stride))))

abbrev configs : Config → Config → Bool
configs c k =
    pointwise eqb c.offset k.offset &&
    (pointwise eqb c.size k.size &&
    (pointwise eqb c.step k.step &&
    (pointwise eqb c.dst_offset k.dst_offset &&
    (pointwise eqb c.dst_stride k.dst_stride &&
    (pointwise eqb c.perm k.perm && (pointwise eqb c.pre k.pre && (pointwise eqb c.post k.post && eqb c.fill k.fill)))))))

config_decides : (c k : Config) → Decides (configs c k) (c ≡ k)
config_decides c k =
    by _ (λ w. λ i. record {
      offset = w.0 i;
      size = w.1.0 i;
      step = w.1.1.0 i;
      dst_offset = w.1.1.1.0 i;
      dst_stride = w.1.1.1.1.0 i;
      perm = w.1.1.1.1.1.0 i;
      pre = w.1.1.1.1.1.1.0 i;
      post = w.1.1.1.1.1.1.1.0 i;
      fill = w.1.1.1.1.1.1.1.1 i;
    })
    (λ e. (ap (λ (x : Config). x.offset) e, (ap (λ (x : Config). x.size) e, (ap (λ (x : Config). x.step) e, (ap (λ (x : Config). x.dst_offset) e, (ap (λ (x : Config). x.dst_stride) e, (ap (λ (x : Config). x.perm) e, (ap (λ (x : Config). x.pre) e, (ap (λ (x : Config). x.post) e, ap (λ (x : Config). x.fill) e)))))))))
    (both_decide _ _ (numbers c.offset k.offset)
    (both_decide _ _ (numbers c.size k.size)
    (both_decide _ _ (numbers c.step k.step)
    (both_decide _ _ (numbers c.dst_offset k.dst_offset)
    (both_decide _ _ (numbers c.dst_stride k.dst_stride)
    (both_decide _ _ (numbers c.perm k.perm)
    (both_decide _ _ (numbers c.pre k.pre) (both_decide _ _ (numbers c.post k.post) (unsigned_Decides c.fill k.fill)))))))))

abbrev jobs : Job → Job → Bool
jobs j k =
    (eqb j.source.start k.source.start && eqb j.source.length k.source.length) &&
    ((eqb j.destination.start k.destination.start && eqb j.destination.length k.destination.length) &&
    (tensors j.tensor k.tensor && configs j.config k.config))

job_decides : (j k : Job) → Decides (jobs j k) (j ≡ k)
job_decides j k =
    by _ (λ w. λ i. record { source = w.0 i; destination = w.1.0 i; tensor = w.1.1.0 i; config = w.1.1.1 i })
    (λ e. (ap (λ (x : Job). x.source) e, (ap (λ (x : Job). x.destination) e, (ap (λ (x : Job). x.tensor) e, ap (λ (x : Job). x.config) e))))
    (both_decide _ _ (part_decides j.source k.source)
    (both_decide _ _ (part_decides j.destination k.destination)
    (both_decide _ _ (tensor_decides j.tensor k.tensor) (config_decides j.config k.config))))

pub slot_decides : (s u : Slot) → Decides (eqb s.state u.state && (jobs s.job u.job && eqb s.moved u.moved)) (s ≡ u)
slot_decides s u =
    by _ (λ w. λ i. record { state = w.0 i; job = w.1.0 i; moved = w.1.1 i })
    (λ e. (ap (λ (x : Slot). x.state) e, (ap (λ (x : Slot). x.job) e, ap (λ (x : Slot). x.moved) e)))
    (both_decide _ _ (unsigned_Decides s.state u.state)
    (both_decide _ _ (job_decides s.job u.job) (unsigned_Decides s.moved u.moved)))
