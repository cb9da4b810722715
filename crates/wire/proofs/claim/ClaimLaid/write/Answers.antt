-- `write` of a claim meets its contract: four numbers, each right after the one before, are the claim's bytes. Assumes nothing.
use Rattle.wire.proofs.ClaimLaws.{put_at_claim_bytes}
use Rattle.wire.proofs.claim.ClaimLaid.write.Goals as goal

pub returns : goal.returns
returns c = search put_at_claim_bytes
