use Rattle.std.proofs.Common.{arith}
use Rattle.std.proofs.lemmas.Grind.{common_steps}
use Rattle.switch.specs.Listings.{trailer}
use Rattle.switch.proofs.listing.trailer.Goals as goal

pub returns : goal.returns
unfolding trailer
returns c = grind (arith, common_steps)
