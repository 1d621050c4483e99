pub mod TableListing
