pub mod SheetView
pub mod Spanned
