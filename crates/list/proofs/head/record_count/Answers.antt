-- `list::head::record_count` meets its contract. Assumes nothing.
use mathlib.Core.Path.{◌≡◌}
use borrow.Author.Rules.{rules}
use Rattle.faults.proofs.Outcomes.{recovers}
use Rattle.list.specs.Lists.{count_in, list_fault, record_count}
use Rattle.list.proofs.head.record_count.Goals as goal

pub returns : goal.returns
unfolding record_count
returns c =
    recovers (list_fault c.args.bytes.now) (count_in c.args.bytes.now) (λ _. c.map_or.result ≡ 0) c.check_list.ensures (search rules) (λ z. z)
