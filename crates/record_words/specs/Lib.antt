pub mod Origins
pub mod Words
