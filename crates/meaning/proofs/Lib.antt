pub mod ListedLocates
