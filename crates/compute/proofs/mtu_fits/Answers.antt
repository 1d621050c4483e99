-- `compute::mtu_fits` meets its contract. Assumes nothing.
use Rattle.compute.proofs.Calling.{mtu-low, mtu-high}
use Rattle.compute.proofs.mtu_fits.Goals as goal

pub returns-then-mtu-lt-LEAST_MTU : goal.returns-then-mtu-lt-LEAST_MTU
returns-then-mtu-lt-LEAST_MTU c =
    mtu-low c.args.mtu 0 0 0 0 c.if-mtu-lt-LEAST_MTU.true

pub returns : goal.returns
returns c =
    mtu-high c.args.mtu 0 0 0 0 c.if-mtu-lt-LEAST_MTU.false
