pub mod WriterIsCanonical
pub mod CanonicalHasMeaning
pub mod Places
pub mod PlacesGoOn
pub mod PlaceToPlace
pub mod FirstWrongWord
