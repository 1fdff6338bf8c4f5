use Rattle.units.proofs.Advances.{finished_then, finished_most}
use Rattle.std.proofs.Common.{arith}
use Rattle.units.proofs.do_units.Goals as goal

pub overflow_add-result : goal.overflow_add-result
overflow_add-result c = omega (arith, c.do_plain-plain.ensures.going.most, finished_most c.go_on-rest.ensures, c.ranges.budget)

pub returns : goal.returns
returns c = finished_then c.do_plain-plain.ensures.going c.go_on-rest.ensures
