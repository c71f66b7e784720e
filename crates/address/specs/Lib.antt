pub mod SenderRange
