mod CheckWordBits
mod CheckWordShares
pub mod CheckWordBlocks
mod CheckWordTables
pub mod Texts
pub mod ContentFaults
pub mod PacketFaults
pub mod Pieces
pub mod Laid
pub mod Encoded
pub mod Cuts
mod BlockRefs
pub mod ShortFronts
