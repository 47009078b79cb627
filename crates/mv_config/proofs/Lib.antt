-- elements of lists
pub mod Elements
-- Config::check
pub mod Validity
-- ValidConfig::of: exits, their chains and their reaches
pub mod Reaches
pub mod Chains
-- ValidConfig::targets, ValidConfig::own_elements
pub mod Targets
pub mod OwnElements
