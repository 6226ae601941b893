-- the image
pub mod Image
-- what it keeps
pub mod Laws
-- its heads where no plan says them
pub mod Each
