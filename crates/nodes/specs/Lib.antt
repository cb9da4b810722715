-- Calls between our own crates, and no rule of document 01: what they do to any content of a node.
--   Lent     the node of a lent run of keys and the rest of it: what an image holds judged and admitted, and taking a claim into a node that was judged already
--   Joining  two nodes in one, whose keys are lent
--   Cases    a refusal that leaves the node as it was
pub mod Lent
pub mod Joining
pub mod Cases
