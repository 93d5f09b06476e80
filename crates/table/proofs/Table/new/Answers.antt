use Rattle.std.proofs.Common.{◌≤◌, length, rules}
use Rattle.table.proofs.Table.new.Goals as goal

pub invariant_of-result-clause-fits : goal.invariant_of-result-clause-fits
invariant_of-result-clause-fits g c =
    let m = c.args.memory in
    let fits : m.size ≤ length m.slots.now = m.fits.2 in
    search rules
