-- `sent::frame_of` meets its contract: the claims, and zeros past them. Assumes nothing.
use Rattle.std.proofs.Common.{List, [], ◌∷◌, length, arith, refl, length-take, ◌<◌, ◌/◌, ◌≡◌}
use Rattle.claims.specs.declared.claim.Claim.{Claim}
use Rattle.claims.specs.Claim.{no_claim}
use Rattle.claims.specs.Words.{claim_width}
use Rattle.keys.proofs.PlaceLaws.{put_at_nil}
use Rattle.wire.proofs.FrameLaws.{blanks_four}
use Rattle.host.proofs.SentPaths.{in_turn, in_end}
use Rattle.host.proofs.sent.frame_of.Goals as goal

-- the places before any is written
abbrev none : List Claim
none = no_claim ∷ no_claim ∷ no_claim ∷ no_claim ∷ []

pub loop-i-init : goal.loop-i-init
loop-i-init c = search put_at_nil

pub loop-i-preserved : goal.loop-i-preserved
loop-i-preserved c =
    let inside : c.loop-i.i < length c.args.words.now / claim_width = omega (arith, length-take (length c.args.words.now / claim_width) none) in
    in_turn _ c.requires.1 inside _ c.loop-i-test.true c.loop-i.invariant c.claim_at.ensures

pub returns : goal.returns
returns c =
    let few = c.requires.0 in
    let end : c.loop-i.i ≡ length c.args.words.now / claim_width = omega (arith, length-take (length c.args.words.now / claim_width) none) in
    (in_end _ c.requires.0 none blanks_four c.loop-i.invariant end, refl)
