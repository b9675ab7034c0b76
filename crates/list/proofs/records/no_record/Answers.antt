-- `list::records::no_record` meets its contract. Assumes nothing.
use Rattle.list.proofs.records.no_record.Goals as goal

pub returns : goal.returns
returns c = rw (c.zero-2.ensures, c.zero.ensures)
