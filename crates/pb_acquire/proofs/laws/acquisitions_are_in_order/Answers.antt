use Rattle.pb_acquire.proofs.OrderLemmas.{numbers_rise, next_number, none_exactly}
use Rattle.pb_acquire.proofs.laws.acquisitions_are_in_order.Goals as goal

pub returns-clause-numbers : goal.returns-clause-numbers
returns-clause-numbers c = numbers_rise

pub returns-clause-next : goal.returns-clause-next
returns-clause-next c = next_number

pub returns-clause-none : goal.returns-clause-none
returns-clause-none c = none_exactly
