-- Laws that the impls of SoloQueue and EndedQueue cite, each proved where it stands: an impl can cite the specs of its crate
-- alone, and no proof file. A reader need not believe them.
pub mod Allowing
pub mod Drained
pub mod SoloWorlds
pub mod SoloGates
pub mod Endings
