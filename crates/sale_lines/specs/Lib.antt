pub mod SaleParts
