-- `record::writer::write` meets its contract. Assumes nothing.
use mathlib.Core.Path.{sym, ◌∙◌}
use native.Mathlib.Omega.{arith}
use lib.ListN.{length}
use Rattle.faults.proofs.Faults.{status}
use Rattle.record.proofs.Answers.{write-told, write-long, room-kept, write-given}
use Rattle.record.proofs.writer.write.Goals as goal

pub put_tensor-requires : goal.put_tensor-requires
put_tensor-requires c =
    let n = length c.args.room.now in
    let e = write-told c.args.tensor c.args.config n c.check_write.ensures c.fault_of-f.ensures in
    let l = write-long c.args.tensor c.args.config n (sym (status e) ∙ c.if-f-eq0.true) in
    omega arith

pub put_config-requires : goal.put_config-requires
put_config-requires c =
    let n = length c.args.room.now in
    let e = write-told c.args.tensor c.args.config n c.check_write.ensures c.fault_of-f.ensures in
    let l = write-long c.args.tensor c.args.config n (sym (status e) ∙ c.if-f-eq0.true) in
    let k = c.put_tensor.auto.room in
    omega arith

pub put_fill-requires : goal.put_fill-requires
put_fill-requires c =
    let n = length c.args.room.now in
    let e = write-told c.args.tensor c.args.config n c.check_write.ensures c.fault_of-f.ensures in
    c.put_config.auto.room ∙ c.put_tensor.auto.room ∙ write-long c.args.tensor c.args.config n (sym (status e) ∙ c.if-f-eq0.true)

pub returns-then-f-eq0-clause-answered : goal.returns-then-f-eq0-clause-answered
returns-then-f-eq0-clause-answered c =
    write-told c.args.tensor c.args.config (length c.args.room.now) c.check_write.ensures c.fault_of-f.ensures

pub returns-then-f-eq0-clause-written : goal.returns-then-f-eq0-clause-written
returns-then-f-eq0-clause-written c =
    let e = write-told c.args.tensor c.args.config (length c.args.room.now) c.check_write.ensures c.fault_of-f.ensures in
    write-given c.args.tensor c.args.config c.args.room.now (sym (status e) ∙ c.if-f-eq0.true) c.version_for.ensures
    c.put_tensor.ensures c.put_config.ensures c.put_fill.ensures

pub returns-else-f-eq0-clause-answered : goal.returns-else-f-eq0-clause-answered
returns-else-f-eq0-clause-answered c =
    write-told c.args.tensor c.args.config (length c.args.room.now) c.check_write.ensures c.fault_of-f.ensures

pub returns-else-f-eq0-clause-written : goal.returns-else-f-eq0-clause-written
returns-else-f-eq0-clause-written c =
    let e = write-told c.args.tensor c.args.config (length c.args.room.now) c.check_write.ensures c.fault_of-f.ensures in
    sym (room-kept c.args.tensor c.args.config c.args.room.now (λ z. c.if-f-eq0.false (status e ∙ z)))
