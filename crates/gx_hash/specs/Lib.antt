pub mod HashKind
pub mod IdDigits
pub mod Laws
pub mod ObjectId
pub mod ObjectIds
pub mod Prefix
pub mod PrefixDigits
