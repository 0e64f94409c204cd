pub mod Preorder
