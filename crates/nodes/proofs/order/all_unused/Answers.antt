-- `nodes::order::all_unused` meets its contract. Assumes nothing.
use Rattle.std.proofs.Common.{rules, ◌∙◌}
use Rattle.std.proofs.lemmas.Iterator.{YieldsList-from_slice}
use Rattle.std.proofs.lemmas.Iterator.Search.{all_from_yields_List}
use borrow.Author.Tests.{tests}
use Rattle.claims.specs.declared.claim.Claim.{Claim}
use Rattle.claims.specs.Claim.{no_claim}
use Rattle.claims.specs.Reply.{same}
use Rattle.nodes.proofs.Compared.{eq_same}
use Rattle.nodes.proofs.OrderPaths.{unused_all}
use Rattle.nodes.proofs.order.all_unused.Goals as goal

pub returns : goal.returns
returns c =
    all_from_yields_List (λ (x : Claim). same x no_claim) _ _ _ c.all.ensures.ran (YieldsList-from_slice c.args.places.now (cc))
    (λ x b q k. search (rules, tests, eq_same))
    ∙ unused_all c.args.places.now
