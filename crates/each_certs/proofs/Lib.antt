-- that the rows made are the certificate's
pub mod Matching
-- that the image is certified
pub mod Keeping
