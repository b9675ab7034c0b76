-- Each refusal in its exact case and order: every answer is exact (`Exact`) for the rules of its call, and a refused answer is zeros
-- besides. Assumes nothing.
use Prim.Native.Nat.{ℕ}
use native.Mathlib.Decide.{ℕ_discrete}
use native.Mathlib.Omega.{arith}
use mathlib.Core.Path.{◌≡◌, refl, sym, ap, ◌∙◌}
use borrow.Author.Tests.{le-ltb}
use lib.Dec.{ltb}
use Rattle.plane.specs.declared.Tensor.{Tensor}
use Rattle.plane.specs.declared.Config.{Config}
use Rattle.faults.specs.declared.Fault.{Fault}
use Rattle.plane.specs.declared.Answer.{Answer}
use Rattle.plane.specs.declared.Count.{Count}
use Rattle.plane.specs.declared.SubTensor.{SubTensor}
use Rattle.plane.specs.Arrays.{zeros}
use Rattle.faults.specs.Faults.{fault, when, ◌or_else◌}
use Rattle.plane.specs.Planes.{src_strides, span, source_rules, source_fault, source_of}
use Rattle.plane.specs.Moves.{need, config_fault, dst_fault, move_rules, move_fault, room_rules, room_fault, refused, answer_of, judge_of, room_of}
use Rattle.plane.specs.Helpers.{elements, count_rules, count_fault, no_count, count_answer, count_of, sub_rules, sub_fault, sub_of, sub_byte, no_sub, sub_answer, sub_tensor_of}
use Rattle.plane.specs.Claims.{SourceExact, SourceZeros, JudgeExact, JudgeZeros, RoomExact, RoomZeros, RoomNever, RoomIsJudge, CountExact, CountZeros, SubExact, SubZeros}
use Rattle.faults.proofs.Faults.{status, or_path, or_none, or_found, or_assoc, spared, when_zero, if_fault_lem, if_none}
use Rattle.plane.proofs.Rules.{answer_refused, answer_given, answer_status}
use Rattle.plane.proofs.CountAnswers.{count_answer_refused, count_answer_given}
use Rattle.plane.proofs.SubAnswers.{sub_status}
use Rattle.faults.proofs.Chains.{exact, exact_fault, never_given}

-- an answer's number and dimension are its fault's

zeros_besides : (t : Tensor) (c : Config) (f : Fault) → ((answer_of f t c).status ≡ 0 → ⊥) → answer_of f t c ≡ refused (fault (answer_of f t c).status (answer_of f t c).dim)
zeros_besides t c f h =
    let e = answer_refused f t c (λ z. h (answer_status f t c ∙ z)) in
    e ∙ ap (λ (x : Answer). refused (fault x.status x.dim)) (sym e)

count_status : (f : Fault) (x : ℕ) → (count_answer f x).status ≡ f.status
count_status f x = elim (ℕ_discrete f.status 0) [
  | yes z ↦ ap (λ (c : Count). c.status) (count_answer_given f x z) ∙ sym z
  | no z ↦ ap (λ (c : Count). c.status) (count_answer_refused f x z)
]

count_dim : (f : Fault) (x : ℕ) → (f.status ≡ 0 → ⊥) → (count_answer f x).dim ≡ f.dim
count_dim f x z = ap (λ (c : Count). c.dim) (count_answer_refused f x z)

count_plain : (f : Fault) (x : ℕ) → f.status ≡ 0 → (count_answer f x).dim ≡ 0
count_plain f x z = ap (λ (c : Count). c.dim) (count_answer_given f x z)

sub_plain : (f : Fault) (t : Tensor) (x : ℕ) → f.status ≡ 0 → (sub_answer f t x).dim ≡ 0
unfolding sub_answer
sub_plain f t x z = ap (λ (s : SubTensor). s.dim) (if_none f (no_sub f) (record { status = 0; dim = 0; tensor = t; byte = x }) z)

answer_plain : (f : Fault) (t : Tensor) (c : Config) → f.status ≡ 0 → (answer_of f t c).dim ≡ 0
answer_plain f t c z = ap (λ (a : Answer). a.dim) (answer_given f t c z)

answer_dim : (f : Fault) (t : Tensor) (c : Config) → (f.status ≡ 0 → ⊥) → (answer_of f t c).dim ≡ f.dim
answer_dim f t c h = ap (λ (a : Answer). a.dim) (answer_refused f t c h)

sub_dim_lem : (f : Fault) (t : Tensor) (x : ℕ) → (f.status ≡ 0 → ⊥) → (sub_answer f t x).dim ≡ f.dim
unfolding sub_answer
sub_dim_lem f t x z = ap (λ (s : SubTensor). s.dim) (if_fault_lem f (no_sub f) (record { status = 0; dim = 0; tensor = t; byte = x }) z)

-- ---- the theorems: what each call that refuses answers is exact, and besides number and dimension it is zeros

pub source_exact : SourceExact
unfolding source_of source_fault
source_exact t = exact_fault (source_rules t) (omega arith)

pub source_zeros : SourceZeros
unfolding source_of
source_zeros t h =
    let l = if_fault_lem (source_fault t) zeros (src_strides t) h in
    let s = if_fault_lem (source_fault t) 0 (span t) h in
    λ i. record { fault = source_fault t; stride = l i; span = s i }

pub judge_exact : JudgeExact
unfolding judge_of move_fault
judge_exact t c srcLen dstLen =
    exact (move_rules t c srcLen dstLen) (omega arith) (answer_status _ t c) (answer_plain _ t c) (answer_dim _ t c)

pub judge_zeros : JudgeZeros
unfolding judge_of
judge_zeros t c srcLen dstLen h = zeros_besides t c (move_fault t c srcLen dstLen) h

pub room_exact : RoomExact
unfolding room_of room_fault
room_exact t c =
    exact (room_rules t c) (omega arith) (answer_status _ t c) (answer_plain _ t c) (answer_dim _ t c)

pub room_zeros : RoomZeros
unfolding room_of
room_zeros t c h =
    let a = zeros_besides t c (room_fault t c) h in
    let s = if_fault_lem (room_fault t c) 0 (span t) (λ z. h (answer_status _ t c ∙ z)) in
    λ i. record { answer = a i; span = s i }

-- a room question never gives 5 or 13
pub room_never : RoomNever
room_never t c = (
  λ e. never_given (room_rules t c) 5 _ refl (((room_exact t c).gives 5 _ (omega arith)).0 (e, refl)),
  λ e. never_given (room_rules t c) 13 _ refl (((room_exact t c).gives 13 _ (omega arith)).0 (e, refl)),
)

-- and else gives what a move gives that is lent enough
pub room_is_judge : RoomIsJudge
unfolding judge_of room_of move_fault room_fault source_fault config_fault dst_fault
room_is_judge t c srcLen dstLen p q =
    let last = when 13 0 (ltb dstLen (need t c)) in
    let none-5 = spared 5 0 (ltb srcLen (span t)) (config_fault t c or_else dst_fault t c or_else last) (le-ltb srcLen (span t) p) in
    let none-13 = when_zero 13 0 (ltb dstLen (need t c)) (le-ltb dstLen (need t c) q) in
    let e : move_fault t c srcLen dstLen ≡ (room_fault t c or_else last) =
    or_path refl none-5 ∙ or_path refl (sym (or_assoc _ _ _)) ∙ sym (or_assoc _ _ _) in
    elim (ℕ_discrete (room_fault t c).status 0) [
      | yes z ↦ answer_given (move_fault t c srcLen dstLen) t c (status e ∙ status (or_none (room_fault t c) last z) ∙ none-13) ∙ sym (answer_given (room_fault t c) t c z)
      | no z ↦ ap (λ (f : Fault). answer_of f t c) (e ∙ or_found (room_fault t c) last z)
    ]

pub count_exact : CountExact
unfolding count_of count_fault
count_exact t start =
    exact (count_rules t start) (omega arith) (count_status _ _) (count_plain _ _) (count_dim _ _)

pub count_zeros : CountZeros
unfolding count_of
count_zeros t start h =
    let f = count_fault t start in
    let e = count_answer_refused f (elements t start) (λ z. h (count_status f (elements t start) ∙ z)) in
    e ∙ ap (λ (x : Count). no_count (fault x.status x.dim)) (sym e)

pub sub_exact : SubExact
unfolding sub_tensor_of sub_fault
sub_exact t s srcLen =
    exact (sub_rules t s srcLen) (omega arith) (sub_status _ _ _) (sub_plain _ _ _) (sub_dim_lem _ _ _)

pub sub_zeros : SubZeros
unfolding sub_tensor_of sub_answer
sub_zeros t s srcLen h =
    let f = sub_fault t s srcLen in
    let e = if_fault_lem f (no_sub f) (record { status = 0; dim = 0; tensor = sub_of t s; byte = sub_byte t s }) (λ z. h (sub_status f (sub_of t s) (sub_byte t s) ∙ z)) in
    e ∙ ap (λ (x : SubTensor). no_sub (fault x.status x.dim)) (sym e)
