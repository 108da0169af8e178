pub mod WeighDriven
pub mod LastRecipe
pub mod DosingClaim
